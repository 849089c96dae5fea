-- The alternative that parts say fits the application, where no fault stands in them.
use Rattle.std.proofs.Common.{◌≡◌, ℕ, ◌≤◌, List, [], ◌∷◌, length, Option, Some, None, Bool, true, false, refl, sym, subst, arith, ⊎_elim}
use Rattle.std.specs.Prelude.{ℤ, pos, ◌≤ℤ◌, IfSome, nat_eq, if◌then◌else◌, All}
use Rattle.fr_notes.proofs.Terms.{ints, get_or_past, length-map-range_with_len, All-head, All-tail, cases_lt, eqb-true, Kind, Queue, ObjId, VarId}
use Rattle.fr_notes.proofs.Terms.{Range, Program, VariableOf, variable_at, no_variable, IsFaultless, kind_of, NotHeld, Alive, Gone, HeldTimes, range_of, CanClaim, AlternativeFits, most_depth, names}
use Rattle.fr_notes.proofs.Terms.{count_in, count_said, unheld_said, claim_by, claim_said, range_in, range_by, range_said, said, IsCount, IsNarrowing}
use Rattle.fr_notes.specs.declared.note.NoteParts.{NoteParts}
use Rattle.fr_notes.proofs.Shown.{listed-case}

-- that an actor doesn't hold it can be said of anything
can-unheld : (kind : Kind) (dead live : Bool) → CanClaim kind (if dead then Gone else (if live then Alive else NotHeld))
can-unheld kind dead live = go kind dead live
  where
    plain : (kind : Kind) → CanClaim kind NotHeld × CanClaim kind Alive × CanClaim kind Gone
    plain (Queue size lo hi) = (tt, tt, tt)
    plain kind = (tt, tt, tt)

    go : (kind : Kind) (dead live : Bool) → CanClaim kind (if dead then Gone else (if live then Alive else NotHeld))
    go kind true live = (plain kind).2
    go kind false true = (plain kind).1
    go kind false false = (plain kind).0

module _ (P : Program) where
  -- the count of a held object can be
  count-fits : (held : List (ObjId × ℕ)) (o : ℕ) → All (IsCount P) held → IfSome (count_in held o) (λ count. CanClaim (kind_of P o) (HeldTimes count))
  count-fits [] o each = tt
  count-fits (h ∷ held) o each = go (nat_eq h.0.0 o) refl (count-fits held o (All-tail (IsCount P) h held each))
    where
      go : (t : Bool) → nat_eq h.0.0 o ≡ t → IfSome (count_in held o) (λ count. CanClaim (kind_of P o) (HeldTimes count)) → IfSome (count_in (h ∷ held) o) (λ count. CanClaim (kind_of P o) (HeldTimes count))
      go true e rest = rw e (subst (λ n. CanClaim (kind_of P n) (HeldTimes h.1)) (eqb-true h.0.0 o e) (All-head (IsCount P) h held each).1)
      go false e rest = rw e rest

  claim-fits : (parts : NoteParts) (o : ℕ) → All (IsCount P) parts.held.items → CanClaim (kind_of P o) (claim_said parts o)
  claim-fits parts o each = go (count_said parts o) (count-fits parts.held.items o each)
    where
      go : (count : Option ℕ) → IfSome count (λ n. CanClaim (kind_of P o) (HeldTimes n)) → CanClaim (kind_of P o) (claim_by count (unheld_said parts o))
      go None h = can-unheld (kind_of P o) (names parts.dead.items o) (names parts.live.items o)
      go (Some n) h = h

  -- a range with its ends in order, inside the declared one
  abbrev IsNarrower : ℕ → ℤ × ℤ → Type 0
  IsNarrower x r = (r.0 ≤ℤ r.1) × ((variable_at P x).lo ≤ℤ r.0) × (r.1 ≤ℤ (variable_at P x).hi)

  range-fits : (narrower : List (VarId × Range)) (x : ℕ) → All (IsNarrowing P) narrower → IfSome (range_in narrower x) (λ r. IsNarrower x (r.lo, r.hi))
  range-fits [] x each = tt
  range-fits (r ∷ narrower) x each = go (nat_eq r.0.0 x) refl (range-fits narrower x (All-tail (IsNarrowing P) r narrower each))
    where
      go : (t : Bool) → nat_eq r.0.0 x ≡ t → IfSome (range_in narrower x) (λ r. IsNarrower x (r.lo, r.hi)) → IfSome (range_in (r ∷ narrower) x) (λ r. IsNarrower x (r.lo, r.hi))
      go true e rest = rw e (let h = All-head (IsNarrowing P) r narrower each in subst (λ n. IsNarrower n (r.1.lo, r.1.hi)) (eqb-true r.0.0 x e) (r.1.ordered, h.1, h.2))
      go false e rest = rw e rest

  -- the declared range of a variable has its ends in order
  pub declared-ordered : IsFaultless P → (x : ℕ) → (variable_at P x).lo ≤ℤ (variable_at P x).hi
  declared-ordered free x = ⊎_elim
      (λ l. let v = free.limits.variables x no_variable l in omega (arith, ints, v.from, v.to))
      (λ l. subst (λ v. v.lo ≤ℤ v.hi) (sym (get_or_past P.variables x no_variable l)) (omega (arith, ints)))
      (cases_lt x (length P.variables))

  said-range : (parts : NoteParts) (x : ℕ) → IsFaultless P → All (IsNarrowing P) parts.range.items → IsNarrower x (range_said P parts.range.items x)
  said-range parts x free each = go (range_in parts.range.items x) (range-fits parts.range.items x each)
    where
      go : (range : Option Range) → IfSome range (λ r. IsNarrower x (r.lo, r.hi)) → IsNarrower x (range_by range ((variable_at P x).lo, (variable_at P x).hi))
      go None h = (declared-ordered free x, omega (arith, ints), omega (arith, ints))
      go (Some r) h = h

  past-range : (x : ℕ) → length P.variables ≤ x → IsNarrower x (pos 0, pos 0)
  past-range x l =
      let F = λ (v : VariableOf). (pos 0 ≤ℤ pos 0) × (v.lo ≤ℤ pos 0) × (pos 0 ≤ℤ v.hi) in
      subst F (sym (get_or_past P.variables x no_variable l)) (omega (arith, ints), omega (arith, ints), omega (arith, ints))

  said-ranges : (parts : NoteParts) (x : ℕ) → IsFaultless P → All (IsNarrowing P) parts.range.items → IsNarrower x (range_of (said P parts) x)
  said-ranges parts x free each =
      listed-case (length P.variables) (range_said P parts.range.items) x (pos 0, pos 0) (IsNarrower x) (λ l. said-range parts x free each) (past-range x)

  pub said-fits : (parts : NoteParts) → IsFaultless P → parts.crit ≤ most_depth → parts.susp ≤ most_depth → All (IsCount P) parts.held.items → All (IsNarrowing P) parts.range.items → AlternativeFits P (said P parts)
  said-fits parts free crit susp counts spans = record {
    critical = crit;
    suspended = susp;
    claims = (
      length-map-range_with_len (claim_said parts) 0 (length P.objects),
      λ o. listed-case (length P.objects) (claim_said parts) o NotHeld (λ claim. CanClaim (kind_of P o) claim) (λ l. claim-fits parts o counts) (λ l. can-unheld (kind_of P o) false false),
    );
    ranges = (
      length-map-range_with_len (range_said P parts.range.items) 0 (length P.variables),
      λ x. let h = said-ranges parts x free spans in (h.1, h.2),
    );
    order = λ x. (said-ranges parts x free spans).0;
  }
