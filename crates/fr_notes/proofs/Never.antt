-- Where there is no step at all, whatever the row: a rule stops the mover.
use Rattle.std.proofs.Common.{◌≡◌, ℕ, List, [], ◌∷◌, Some, None, Bool, true, false, refl, sym, ap, ◌∙◌, subst}
use Rattle.std.specs.Prelude.{IsTrue, All, find, if◌then◌else◌}
use Rattle.fr_notes.proofs.Terms.{same_Some, false≢true, All-nil, All-cons, All-head, All-tail, ObjId, Point, Side, Before, Inside, Instr, Calls, On, ObjectCall}
use Rattle.fr_notes.proofs.Terms.{Program, Way, GivenByHolder, AllowedInCritical, AllowedSuspended, AllowedInInterrupt, SuitsSemaphore, DepthAboveZero, EndsInOrder, State, content_of, kind_of}
use Rattle.fr_notes.proofs.Terms.{Breaches, IsForbidden, condition_of, forbids, first_forbidden, decided_rules, used_object, is_unsuited, IsFree, stops, Known, NeverSteps, Holding}
use Rattle.fr_notes.proofs.Terms.{Unheld, Living, Lifeless, Own, Others, holding, living, is_given_unheld, IsSpot, condition_known}
use Rattle.fr_rules.specs.declared.rules.Rule.{Rule}
use Rattle.fr_notes.proofs.Holdings.{IsIn}
use Rattle.fr_notes.proofs.Seen.{other, contents-in, apart}
use Rattle.fr_notes.proofs.Rows.{row-never, site}
use Rattle.fr_notes.proofs.PlainRows.{condition-known}
use Rattle.fr_notes.proofs.EndRows.{living-in, free-live, unheld-gives}

-- a rule that is found is true, and so is what is true of each rule of the list
found : (test : Rule → Bool) (Q : Rule → Type 0) (l : List Rule) (rule : Rule) → All Q l → find test l ≡ Some rule → Q rule × IsTrue (test rule)
found test Q [] rule all e = cc
found test Q (r ∷ l) rule all e = go (test r) refl (λ f. found test Q l rule (All-tail Q r l all) f)
  where
    go : (b : Bool) → test r ≡ b → (find test l ≡ Some rule → Q rule × IsTrue (test rule)) → Q rule × IsTrue (test rule)
    go true t later =
        let f : (if true then Some r else find test l) ≡ Some rule = rw t at e in
        let same : r ≡ rule = same_Some _ _ f in
        (subst Q same (All-head Q r l all), subst (λ k. IsTrue (test k)) same t)
    go false t later =
        let f : (if false then Some r else find test l) ≡ Some rule = rw t at e in
        later f

-- each of the rules that are decided stops an actor before an instruction, where it is breached
module _ (P : Program) (S : State) (a : ℕ) (i : Instr) where
  abbrev Stopping : Rule → Type 0
  Stopping rule = IsTrue (stops rule) × (IsForbidden P S a Before i rule → Breaches P S a Before i rule)

  all-stop : All Stopping decided_rules
  all-stop =
      All-cons Stopping AllowedInCritical (AllowedSuspended ∷ AllowedInInterrupt ∷ SuitsSemaphore ∷ DepthAboveZero ∷ EndsInOrder ∷ []) (refl, λ h. h)
      (All-cons Stopping AllowedSuspended (AllowedInInterrupt ∷ SuitsSemaphore ∷ DepthAboveZero ∷ EndsInOrder ∷ []) (refl, λ h. h)
      (All-cons Stopping AllowedInInterrupt (SuitsSemaphore ∷ DepthAboveZero ∷ EndsInOrder ∷ []) (refl, λ h. h)
      (All-cons Stopping SuitsSemaphore (DepthAboveZero ∷ EndsInOrder ∷ []) (refl, λ h. h)
      (All-cons Stopping DepthAboveZero (EndsInOrder ∷ []) (refl, λ h. h)
      (All-cons Stopping EndsInOrder [] (refl, λ h. h) (All-nil Stopping))))))

  forbidden-free : (rule : Rule) → first_forbidden P (condition_of P S a) i ≡ Some rule → IsFree P S a Before i → ⊥
  forbidden-free rule e free =
      let k = found (forbids P (condition_of P S a) i) Stopping decided_rules rule all-stop e in
      free.0 rule k.0.0 (k.0.1 k.1)

is-lifeless : (known : Holding) → living known ≡ None → known ≡ Lifeless
is-lifeless Unheld e = cc
is-lifeless Living e = cc
is-lifeless Lifeless e = refl
is-lifeless (Own n) e = cc
is-lifeless (Others n) e = cc

module _ (P : Program) (k : Known) (p : Point) (way : Way) where
  -- a rule that the mover's condition decides
  pub forbidden-never : (i : Instr) (rule : Rule) → IsSpot P k p Before i → first_forbidden P (condition_known P k p) i ≡ Some rule → NeverSteps P k p way
  forbidden-never i rule spot e = row-never P k p Before i way spot (λ q there S c mid is free row.
      forbidden-free P S p.actor.0 i rule (ap (λ x. first_forbidden P x i) (condition-known (site P k p q Before i spot there) S is) ∙ e) free)

  -- the object is known to be dead
  pub dead-never : (side : Side) (i : Instr) (o : ObjId) → used_object i side ≡ Some o.0 → IsSpot P k p side i → living (holding k o.0) ≡ None → NeverSteps P k p way
  dead-never side i o uses spot e = row-never P k p side i way spot (λ q there S c mid is free row.
      let s = site P k p q side i spot there in
      free-live P S p.actor.0 (other s) o.0 side i uses free (subst (λ h. IsIn p.actor.0 (other s) h (content_of S o.0)) (is-lifeless (holding k o.0) e) (contents-in s S is o.0)))

  -- a mutex is given that the mover isn't known to hold
  pub unheld-never : (side : Side) (call : ObjectCall) (known : Holding) → used_object (Calls (On call)) side ≡ Some call.object.0 → IsSpot P k p side (Calls (On call)) → living (holding k call.object.0) ≡ Some known → is_given_unheld (kind_of P call.object.0) call known ≡ true → NeverSteps P k p way
  unheld-never side call known uses spot live t = row-never P k p side (Calls (On call)) way spot (λ q there S c mid is free row.
      let s = site P k p q side (Calls (On call)) spot there in
      let o = call.object in
      let inside = living-in p.actor.0 (other s) (content_of S o.0) (holding k o.0) known live (free-live P S p.actor.0 (other s) o.0 side (Calls (On call)) uses free) (contents-in s S is o.0) in
      free.0 GivenByHolder refl (unheld-gives P S p.actor.0 (other s) (apart s) call known t inside))

  -- inside a take or a give that doesn't suit the kind
  pub unsuited-never : (call : ObjectCall) → IsSpot P k p Inside (Calls (On call)) → is_unsuited (kind_of P call.object.0) call.timing call.act ≡ true → NeverSteps P k p way
  unsuited-never call spot t = row-never P k p Inside (Calls (On call)) way spot (λ q there S c mid is free row.
      false≢true (sym free.1 ∙ t))
