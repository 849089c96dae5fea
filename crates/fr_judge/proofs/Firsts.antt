-- The first part that fails at a point: of the kinds that come before its kind all parts are kept, and of its own kind
-- those with a lesser rule, end or point.
use Rattle.std.proofs.Common.{◌≡◌, ℕ, ◌<◌, Some, None, refl, sym, ◌∙◌, subst, ⊎_elim, arith}
use Rattle.std.specs.Prelude.{slice_get}
use Rattle.fr_judge.proofs.Terms.{same_Some, Point, Program, points_of, point_number, points_are_numbered, IsFaultless, End, Writer, Reader, IsFirstOwn, Certificate, Guarded, Told, Part, EntryPart}
use Rattle.fr_judge.proofs.Terms.{RulePart, GoesPart, GuardPart, NearPart, SpoiledPart, IsKept, end_number, place_in_order, KeepsAll, IsFirstPart, part_of_own, TellsFirst, IsPartOf}
use Rattle.fr_edge.specs.declared.failure.Own.{Own}
use Rattle.fr_edge.specs.declared.failure.Own.TheVariants.{Entry as OwnEntry, Rule as OwnRule, Goes as OwnGoes}
use Rattle.fr_effects.specs.Disturbance.{IsSpoiler}
use Rattle.fr_effects.specs.Undisturbed.{Undisturbed}
use Rattle.fr_ends.specs.declared.ends.EndName.{EndName}
use Rattle.fr_ends.specs.FirstEnd.{IsFirstEnd}
use Rattle.fr_judge.specs.declared.part.Part.TheVariants.{Guard as TellsGuard, Near as TellsNear, Spoiled as TellsSpoiled}
use Rattle.fr_judge.specs.Deleter.{IsDeleter}
use Rattle.fr_judge.proofs.Telling.{failing-is-of}

-- of two ends, the one that comes first is the writer's
writer-first : (e f : End) → end_number e < end_number f → (e ≡ Writer) × (f ≡ Reader)
writer-first Writer Reader l = (refl, refl)
writer-first Writer Writer l = absurd (omega arith)
writer-first Reader Writer l = absurd (omega arith)
writer-first Reader Reader l = absurd (omega arith)

module _ (P : Program) (C : Certificate) (p : Point) where
  -- where the own obligations hold, parts of the first three kinds are kept; with guards those of the first four; where
  -- no delete is a danger those of the first five; and where nobody spoils the note, all
  own-kept : IsFirstOwn P C.notes p None → (other : Part) → (place_in_order P other).0 < 3 → IsKept P C p other
  own-kept own EntryPart l = own.0
  own-kept own (RulePart rule) l = own.1 rule
  own-kept own (GoesPart t) l = own.2 t
  own-kept own other l = absurd (omega arith)

  guards-kept : IsFirstOwn P C.notes p None → IsFirstEnd P C p None → (other : Part) → (place_in_order P other).0 < 4 → IsKept P C p other
  guards-kept own guards (GuardPart buffer end) l = guards buffer end
  guards-kept own guards other l = own-kept own other (omega arith)

  deletes-kept : IsFirstOwn P C.notes p None → IsFirstEnd P C p None → IsDeleter P C.notes p None → (other : Part) → (place_in_order P other).0 < 5 → IsKept P C p other
  deletes-kept own guards near (NearPart q) l = near q
  deletes-kept own guards near other l = guards-kept own guards other (omega arith)

  pub all-kept : IsFirstOwn P C.notes p None → IsFirstEnd P C p None → IsDeleter P C.notes p None → IsSpoiler P C.notes p None → KeepsAll P C p
  all-kept own guards near calm (SpoiledPart q) = λ is. calm q is is
  all-kept own guards near calm other = deletes-kept own guards near other (omega arith)

  -- the part fails, parts of earlier kinds are kept, and so are those of its own kind with a lesser number
  first : (part : Part) → (IsKept P C p part → ⊥) → ((other : Part) → (place_in_order P other).0 < (place_in_order P part).0 → IsKept P C p other) → ((other : Part) → (place_in_order P other).0 ≡ (place_in_order P part).0 → (place_in_order P other).1 < (place_in_order P part).1 → IsKept P C p other) → IsFirstPart P C p part
  first part fails kinds same = record {
    fails = fails;
    before = λ other lt. ⊎_elim (λ l. kinds other l) (λ l. same other l.0 l.1) lt;
  }

  pub own-first : (own : Own) → IsFirstOwn P C.notes p (Some own) → TellsFirst P C p (Some (part_of_own own))
  own-first OwnEntry h =
      (EntryPart, refl, first EntryPart h (λ other l. absurd (omega arith)) (λ other e l. absurd (omega arith)))
  own-first (OwnRule k) h = (RulePart k, refl, first (RulePart k) h.1.0 kinds same)
    where
      kinds : (other : Part) → (place_in_order P other).0 < 1 → IsKept P C p other
      kinds EntryPart l = h.0
      kinds other l = absurd (omega arith)

      same : (other : Part) → (place_in_order P other).0 ≡ 1 → (place_in_order P other).1 < (place_in_order P (RulePart k)).1 → IsKept P C p other
      same (RulePart rule) e l = h.1.1 rule l
      same other e l = absurd (omega arith)
  own-first (OwnGoes t) h = (GoesPart t, refl, first (GoesPart t) h.3 kinds same)
    where
      kinds : (other : Part) → (place_in_order P other).0 < 2 → IsKept P C p other
      kinds EntryPart l = h.0
      kinds (RulePart rule) l = h.1 rule
      kinds other l = absurd (omega arith)

      same : (other : Part) → (place_in_order P other).0 ≡ 2 → (place_in_order P other).1 < point_number P t → IsKept P C p other
      same (GoesPart u) e l = λ is. h.4 u is l is
      same other e l = absurd (omega arith)

  pub guard-first : (e : EndName) → IsFirstOwn P C.notes p None → IsFirstEnd P C p (Some e) → TellsFirst P C p (Some (TellsGuard e))
  guard-first e own end_first = (GuardPart e.buffer.0 e.end, refl, first (GuardPart e.buffer.0 e.end) end_first.0 (λ other l. own-kept own other l) same)
    where
      same : (other : Part) → (place_in_order P other).0 ≡ 3 → (place_in_order P other).1 < end_number e.end → IsKept P C p other
      same (GuardPart buffer end) q l =
          let order = writer-first end e.end l in
          subst (λ x. Guarded P C p buffer x) (sym order.0) (end_first.1 order.1 buffer)
      same other q l = absurd (omega arith)

  pub near-first : (q : Point) → IsFirstOwn P C.notes p None → IsFirstEnd P C p None → IsDeleter P C.notes p (Some q) → TellsFirst P C p (Some (TellsNear q))
  near-first q own guards deleter = (NearPart q, refl, first (NearPart q) deleter.1 (λ other l. guards-kept own guards other l) same)
    where
      same : (other : Part) → (place_in_order P other).0 ≡ 4 → (place_in_order P other).1 < point_number P q → IsKept P C p other
      same (NearPart r) e l = λ is. deleter.2 r is l is
      same other e l = absurd (omega arith)

  pub spoiled-first : (q : Point) (k : ℕ) → slice_get (points_of P) k ≡ Some q → IsFirstOwn P C.notes p None → IsFirstEnd P C p None → IsDeleter P C.notes p None → IsSpoiler P C.notes p (Some k) → TellsFirst P C p (Some (TellsSpoiled q))
  spoiled-first q k at own guards near spoiler = (SpoiledPart q, refl, first (SpoiledPart q) fails (λ other l. deletes-kept own guards near other l) same)
    where
      number : point_number P q ≡ k
      number = ((points_are_numbered P).listed k q at).1

      fails : Undisturbed P C.notes p q → ⊥
      fails = subst (λ r. Undisturbed P C.notes p r → ⊥) (same_Some _ _ (sym ((points_are_numbered P).at spoiler.0 spoiler.1) ∙ subst (λ n. slice_get (points_of P) n ≡ Some q) (sym spoiler.2) at)) spoiler.3

      same : (other : Part) → (place_in_order P other).0 ≡ 5 → (place_in_order P other).1 < point_number P q → IsKept P C p other
      same (SpoiledPart r) e l = λ is. spoiler.4 r is (omega (arith, l, number)) is
      same other e l = absurd (omega arith)

-- what is told of a point is of the application
pub first-is-of : (P : Program) → IsFaultless P → (C : Certificate) (p : Point) (told : Told) → TellsFirst P C p (Some told) → IsPartOf P told
first-is-of P faultless C p told first = subst (λ t. IsPartOf P t) (sym first.1) (failing-is-of P faultless C p first.0 first.2.fails)
