-- A note implies a guard exactly where each of its alternatives says that the guard holds. Where one doesn't, there is a
-- state with it in which the guard doesn't hold: the usual one, or the one with a variable at the upper end of its range.
use Rattle.std.proofs.Common.{◌≡◌, ◌<◌, ℕ, Option, Some, None, Bool, true, false, List, [], ◌∷◌, length, get_or, refl, sym, ap, ◌∙◌, subst, arith, ◌&&◌}
use Rattle.std.specs.Prelude.{All, IsTrue, ◌↔◌, nat_eq, if◌then◌else◌, slice_get}
use Rattle.std.proofs.lemmas.Bool.{false≢true}
use Rattle.std.proofs.lemmas.Int.{ints}
use Rattle.std.proofs.lemmas.List.{get_or_default}
use Rattle.std.proofs.lemmas.List.Elements.{All-head, All-tail}
use Rattle.std.proofs.lemmas.Option.{same_Some}
use Rattle.fr_program.specs.declared.ids.Point.{Point}
use Rattle.fr_program.specs.declared.ids.Side.{Side}
use Rattle.fr_program.specs.declared.ids.Side.TheVariants.{Inside}
use Rattle.fr_program.specs.declared.instr.Instr.{Instr}
use Rattle.fr_program.specs.declared.instr.Instr.TheVariants.{Call as Calls}
use Rattle.fr_program.specs.declared.instr.Call.TheVariants.{On}
use Rattle.fr_program.specs.declared.instr.ObjectCall.{ObjectCall}
use Rattle.fr_program.specs.Program.{Program}
use Rattle.fr_program.specs.Lookup.{IsPoint, instr_of}
use Rattle.fr_program.specs.Fault.{IsFaultless}
use Rattle.fr_program.specs.Points.{points_of}
use Rattle.fr_program.specs.PointNumbers.{PointsAreNumbered}
use Rattle.fr_rules.specs.State.{State, Content, count_held, content_of, value_of, kind_of}
use Rattle.fr_program.specs.declared.instr.End.{End}
use Rattle.fr_program.specs.declared.instr.End.TheVariants.{Writer, Reader}
use Rattle.fr_rules.specs.Rule.{is_at_end}
use Rattle.fr_notes.specs.declared.claim.Claim.{Claim}
use Rattle.fr_notes.specs.declared.claim.Claim.TheVariants.{NotHeld, Alive, Gone, HeldTimes}
use Rattle.fr_notes.specs.Note.{Alternative, Note, Meets, Within, HoldsOne, claim_of, range_of}
use Rattle.fr_notes.specs.Noted.{NotedBy, note_at}
use Rattle.fr_notes.specs.Fits.{CanClaim, AlternativeFits, NoteFits}
use Rattle.fr_notes.specs.Known.{alone, is_held}
use Rattle.fr_notes.proofs.Holdings.{held-once}
use Rattle.fr_notes.proofs.Seen.{Site, drawn, drawn-known, drawn-value, usual, usual-chosen, valued, valued-chosen}
use Rattle.fr_notes.proofs.Shown.{depth_for-same, instead-same}
use Rattle.fr_ends.specs.Guard.{Guard, Sole, ByMutex, InCritical, Turn, EndGuard}
use Rattle.fr_ends.specs.Certificate.{Certificate, HasGuard, value_for, guard_for, same_end}
use Rattle.fr_ends.specs.Fits.{GuardFits, EndFits, CertificateFits}
use Rattle.fr_ends.specs.FirstEnd.{IsFirstEnd}
use Rattle.fr_ends.specs.Guarded.{called_inside, Guarded, ImpliesGuard}
use Rattle.fr_ends.specs.Implied.{SaysGuard, NoteSays, KeepsEnd}

-- what an alternative says of a guard is so in each state with the alternative
module _ (P : Program) (n : Alternative) (fits : AlternativeFits P n) (a : ℕ) where
  held-count : (kind : _) (claim : Claim) (content : Content) → CanClaim kind claim → IsTrue (is_held claim) → Meets a claim content → 0 < count_held a content
  held-count kind (HeldTimes count) content can t m =
      let once = held-once kind count can in
      let same : count_held a content ≡ count = ap (count_held a) m ∙ depth_for-same a count in omega (arith, once, same)
  held-count kind NotHeld content can t m = absurd (false≢true t)
  held-count kind Alive content can t m = absurd (false≢true t)
  held-count kind Gone content can t m = absurd (false≢true t)

  says-has : (g : Guard) (S : State) → SaysGuard n a g → HoldsOne n a S → HasGuard g a S
  unfolding SaysGuard
  says-has (Sole actor) S says holds = says
  says-has (ByMutex mutex) S says holds =
      held-count (kind_of P mutex) (claim_of n mutex) (content_of S mutex) (fits.claims.1 mutex) says (holds.objects mutex)
  says-has InCritical S says holds = subst (λ d. 0 < d) (sym holds.critical) says
  says-has (Turn x values) S says holds =
      let v = says.0 in
      let within : Within (v, v) (value_of S x) = subst (λ r. Within r (value_of S x)) says.2 (holds.variables x) in
      let same : v ≡ value_of S x = omega (arith, ints, within.0, within.1) in says.1 ∙ ap Some same

-- and what is so in each state with it, the alternative says
module _ (P : Program) (free : IsFaultless P) (p : Point) (at : IsPoint P p) (n : Alternative) (fits : AlternativeFits P n) where
  abbrev s : Site
  s = record { app = P; known = alone n; p = p; q = p; faultless = free; point = at; fits = record { mover = fits; other = tt }; there = tt }

  -- the usual state with it, and the one with a variable at the upper end of its range
  abbrev low : State
  low = drawn s (usual s)

  low-noted : NotedBy P p n low
  low-noted = (drawn-known s (usual s) (usual-chosen s)).mover

  abbrev high : ℕ → State
  high x = drawn s (valued x (range_of n x).1 (usual s))

  high-noted : (x : ℕ) → NotedBy P p n (high x)
  high-noted x =
      let v = (range_of n x).1 in
      let chosen = valued-chosen s (usual s) (usual-chosen s) x v (fits.order x, omega (arith, ints)) in
      (drawn-known s (valued x v (usual s)) chosen).mover

  count-held : (a : ℕ) (claim : Claim) (content : Content) → Meets a claim content → 0 < count_held a content → IsTrue (is_held claim)
  count-held a (HeldTimes count) content m above = refl
  count-held a NotHeld content m above = absurd (omega (arith, m, above))
  count-held a Alive content m above = let none = m.1 in absurd (omega (arith, none, above))
  count-held a Gone content m above =
      let none : count_held a content ≡ 0 = ap (count_held a) m in absurd (omega (arith, none, above))

  has-says : (g : Guard) → GuardFits P g → ((S : State) → NotedBy P p n S → HasGuard g p.actor.0 S) → SaysGuard n p.actor.0 g
  unfolding SaysGuard
  has-says (Sole actor) fit has = has low low-noted
  has-says (ByMutex mutex) fit has =
      count-held p.actor.0 (claim_of n mutex) (content_of low mutex) (low-noted.holds.objects mutex) (has low low-noted)
  has-says InCritical fit has = subst (λ d. 0 < d) low-noted.holds.critical (has low low-noted)
  has-says (Turn x values) fit has =
      let r = range_of n x in
      let f = usual s in
      let at_low : value_for values p.actor.0 ≡ Some r.0 = has low low-noted ∙ ap Some (drawn-value s f x fit.0) in
      let at_high : value_for values p.actor.0 ≡ Some r.1 =
      has (high x) (high-noted x) ∙ ap Some (drawn-value s (valued x r.1 f) x fit.0 ∙ instead-same x r.1 f.value) in
      let same : r.0 ≡ r.1 = same_Some _ _ (sym at_low ∙ at_high) in
      (r.0, at_low, ap (λ z. (r.0, z)) (sym same))

-- the same, of a note
module _ (P : Program) (free : IsFaultless P) (p : Point) (at : IsPoint P p) (notes : List Note) (fits : NoteFits P (note_at P notes p)) where
  pub says-implies : (g : Guard) → NoteSays (note_at P notes p) p.actor.0 g → ImpliesGuard P notes p g
  says-implies g says = λ S noted.
      let n = noted.holds.0 in
      let c = noted.holds.1 in
      says-has P n (subst (λ (m : Alternative). AlternativeFits P m) c.2 (fits.1 c.0 n c.1)) p.actor.0 g S
      (subst (λ (m : Alternative). SaysGuard m p.actor.0 g) c.2 (says c.0 n c.1)) noted.holds.2

  pub implies-says : (g : Guard) → GuardFits P g → ImpliesGuard P notes p g → NoteSays (note_at P notes p) p.actor.0 g
  implies-says g fit implies = λ i d within.
      let note = note_at P notes p in
      let n = get_or note i d in
      has-says P free p at n (fits.1 i d within) g fit
      (λ S by. implies S (record { formed = by.formed; at = by.at; holds = (n, (i, within, get_or_default note i n d within), by.holds) }))

-- the guard that is listed for an end fits
pub guard_for-fits : (P : Program) (ends : List EndGuard) (buffer : ℕ) (end : End) (g : Guard) → All (λ e. EndFits P e) ends → guard_for ends buffer end ≡ Some g → GuardFits P g
guard_for-fits P [] buffer end g fit e = absurd (none_is_none e)
  where
    none_is_none : None ≡ Some g → ⊥
    none_is_none h = cc
guard_for-fits P (f ∷ ends) buffer end g fit e = go (nat_eq f.buffer buffer && same_end f.end end) e (λ later. guard_for-fits P ends buffer end g (All-tail (λ x. EndFits P x) f ends fit) later)
  where
    go : (b : Bool) → (if b then Some f.guard else guard_for ends buffer end) ≡ Some g → (guard_for ends buffer end ≡ Some g → GuardFits P g) → GuardFits P g
    go true is rest = subst (λ k. GuardFits P k) (same_Some _ _ is) (All-head (λ x. EndFits P x) f ends fit).guard
    go false is rest = rest is

-- the instruction of a point that is inside a call
pub called-instr : (side : Side) (i : Option Instr) (call : ObjectCall) → called_inside side i ≡ Some call → i ≡ Some (Calls (On call))
called-instr Inside (Some (Calls (On other))) call found = ap (λ c. Some (Calls (On c))) (same_Some _ _ found)
called-instr side i call found = cc

module _ (P : Program) (free : IsFaultless P) (C : Certificate) (fit : CertificateFits P C) (p : Point) (at : IsPoint P p) (note : Note) (noted : note ≡ note_at P C.notes p) (fits : NoteFits P note) (call : ObjectCall) (found : called_inside p.side (instr_of P p) ≡ Some call) where
  there : NoteFits P (note_at P C.notes p)
  there = subst (λ m. NoteFits P m) noted fits

  -- what is owed at an end is what the definition asks, of whatever buffer
  pub kept-guarded : (end : End) → KeepsEnd C.ends note p.actor.0 end call → (buffer : ℕ) → Guarded P C p buffer end
  kept-guarded end keeps buffer = λ other inside t.
      let same : call ≡ other = same_Some _ _ (sym found ∙ inside.1) in
      let number : call.object.0 ≡ buffer = ap (λ c. c.object.0) same ∙ inside.0 in
      let k = keeps (subst (λ c. IsTrue (is_at_end end c.act)) (sym same) t) in
      (k.0, subst (λ b. guard_for C.ends b end ≡ Some k.0) number k.1, says-implies P free p at C.notes there k.0 (subst (λ m. NoteSays m p.actor.0 k.0) noted k.2))

  pub guarded-kept : (end : End) → Guarded P C p call.object.0 end → KeepsEnd C.ends note p.actor.0 end call
  guarded-kept end guarded = λ t.
      let g = guarded call (refl, found) t in
      (g.0, g.1, subst (λ m. NoteSays m p.actor.0 g.0) (sym noted) (implies-says P free p at C.notes there g.0 (guard_for-fits P C.ends call.object.0 end g.0 fit.1.0 g.1) g.2))

-- the answer, by what the code compares at each end
module _ (P : Program) (free : IsFaultless P) (C : Certificate) (fit : CertificateFits P C) (k : ℕ) (point : Point) (numbered : PointsAreNumbered P) (listed : slice_get (points_of P) k ≡ Some point) where
  standing : IsPoint P point
  standing = (numbered.listed k point listed).0

  -- what is so of the point that was found is so of each point with the number
  each : (Q : Point → Type 0) → Q point → (p : Point) → slice_get (points_of P) k ≡ Some p → Q p
  each Q q p e = subst Q (same_Some _ _ (sym listed ∙ e)) q

  module _ (inside : Certificate) (view : inside ≡ C) (note : Note) (noted : (p : Point) → slice_get (points_of P) k ≡ Some p → note ≡ note_at P inside.notes p) (fits : NoteFits P note) (call : ObjectCall) (found : called_inside point.side (instr_of P point) ≡ Some call) where
    pub called-object : call.object.0 < length P.objects
    called-object = (free.names.things point.actor.0 point.pc (Calls (On call)) (called-instr point.side (instr_of P point) call found)).1

    is_noted : note ≡ note_at P C.notes point
    is_noted = noted point listed ∙ ap (λ d. note_at P d.notes point) view

    kept : (end : End) (t : Bool) → (IsTrue t ↔ KeepsEnd inside.ends note point.actor.0 end call) → t ≡ true → (buffer : ℕ) → Guarded P C point buffer end
    kept end t h is = kept-guarded P free C fit point standing note is_noted fits call found end (subst (λ d. KeepsEnd d.ends note point.actor.0 end call) view (h.0 is))

    unkept : (end : End) (t : Bool) → (IsTrue t ↔ KeepsEnd inside.ends note point.actor.0 end call) → t ≡ false → Guarded P C point call.object.0 end → ⊥
    unkept end t h is guarded =
        let keeps = guarded-kept P free C fit point standing note is_noted fits call found end guarded in
        false≢true (sym is ∙ h.1 (subst (λ d. KeepsEnd d.ends note point.actor.0 end call) (sym view) keeps))

    module _ (w : Bool) (writer : IsTrue w ↔ KeepsEnd inside.ends note point.actor.0 Writer call) where
      pub first-writer : w ≡ false → (p : Point) → slice_get (points_of P) k ≡ Some p → IsFirstEnd P C p (Some (record { buffer = call.object; end = Writer }))
      first-writer is = each (λ p. IsFirstEnd P C p (Some (record { buffer = call.object; end = Writer }))) (unkept Writer w writer is, λ e. cc)

      module _ (r : Bool) (reader : IsTrue r ↔ KeepsEnd inside.ends note point.actor.0 Reader call) (is_kept : w ≡ true) where
        pub first-reader : r ≡ false → (p : Point) → slice_get (points_of P) k ≡ Some p → IsFirstEnd P C p (Some (record { buffer = call.object; end = Reader }))
        first-reader is = each (λ p. IsFirstEnd P C p (Some (record { buffer = call.object; end = Reader }))) (unkept Reader r reader is, λ e buffer. kept Writer w writer is_kept buffer)

        pub first-none : r ≡ true → (p : Point) → slice_get (points_of P) k ≡ Some p → IsFirstEnd P C p None
        first-none is = each (λ p. IsFirstEnd P C p None) both
          where
            both : (buffer : ℕ) (end : End) → Guarded P C point buffer end
            both buffer Writer = kept Writer w writer is_kept buffer
            both buffer Reader = kept Reader r reader is buffer
