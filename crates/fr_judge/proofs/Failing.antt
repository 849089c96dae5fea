-- A part that isn't kept is one that the point owes: whether it owes it can be decided, and where it doesn't, each part
-- is kept because one of its premises is false.
use Rattle.std.proofs.Common.{◌≡◌, ℕ, Option, Some, None, Bool, true, false, refl, sym, ap, ◌∙◌, subst, inl, inr, ⊎_elim}
use Rattle.std.specs.Prelude.{◌⊎◌, IsTrue}
use Rattle.fr_judge.proofs.Terms.{same_Some, false≢true, eqb_tells, Instr, Calls, On, ObjectCall, ActorId, Point, Side, Before, Inside, Program, HasSide, IsPoint, instr_of, End, is_at_end, is_own}
use Rattle.fr_judge.proofs.Terms.{Certificate, called_inside, deletes_used, clash-found, found-clash, Part, EntryPart, RulePart, GoesPart, GuardPart, NearPart, SpoiledPart, IsKept, IsInsideDeleted}
use Rattle.fr_judge.proofs.Terms.{IsOwed, OnlyOwedPartsFail}

-- true or not
abbrev Decided : Type 0 → Type 0
Decided Q = Q ⊎ (Q → ⊥)

side-or : (s t : Side) → Decided (s ≡ t)
side-or Before Before = inl refl
side-or Inside Inside = inl refl
side-or s t = inr (λ e. cc)

number-or : (m n : ℕ) → Decided (m ≡ n)
number-or m n = ⊎_elim (λ h. inl h.1) (λ h. inr h.1) (eqb_tells m n)

actor-or : (a b : ActorId) → Decided (a ≡ b)
actor-or a b = ⊎_elim (λ h. inl (let f : ℕ → ActorId = λ n. record { 0 = n } in ap f h)) (λ h. inr (λ e. h (ap (λ i. i.0) e))) (number-or a.0 b.0)

true-or : (b : Bool) → Decided (IsTrue b)
true-or true = inl refl
true-or false = inr (λ e. cc)

both-or : {Q R : Type 0} → Decided Q → Decided R → Decided (Q × R)
both-or (inl q) (inl r) = inl (q, r)
both-or (inl q) (inr r) = inr (λ h. r h.1)
both-or (inr q) r = inr (λ h. q h.0)

not-or : {Q : Type 0} → Decided Q → Decided (Q → ⊥)
not-or (inl q) = inr (λ h. h q)
not-or (inr q) = inl q

-- one instruction has a property, where there is one
some-or : (o : Option Instr) (Q : Instr → Type 0) → ((i : Instr) → Decided (Q i)) → Decided ((i : Instr) × (o ≡ Some i) × Q i)
some-or None Q q = inr (λ h. let e = h.1 in cc)
some-or (Some i) Q q = ⊎_elim (λ h. inl (i, refl, h)) (λ h. inr (λ x. h (subst (λ j. Q j) (sym (same_Some _ _ x.1)) x.2))) (q i)

has-side-or : (side : Side) (i : Instr) → Decided (HasSide i side)
has-side-or Before i = inl tt
has-side-or Inside (Calls (On call)) = inl tt
has-side-or Inside i = inr (λ h. h)

point-or : (P : Program) (q : Point) → Decided (IsPoint P q)
point-or P q = some-or (instr_of P q) (λ i. HasSide i q.side) (has-side-or q.side)

-- the call that the point is inside is on this buffer at this end, or it isn't
end-or : (P : Program) (p : Point) (b : ℕ) (end : End) → Decided (IsOwed P p (GuardPart b end))
end-or P p b end = by-call (called_inside p.side (instr_of P p)) refl
  where
    by-call : (c : Option ObjectCall) → called_inside p.side (instr_of P p) ≡ c → Decided (IsOwed P p (GuardPart b end))
    by-call None e = inr (λ x. let f = sym e ∙ x.1.1 in cc)
    by-call (Some call) e =
        ⊎_elim (λ h. inl (call, (h.0, e), h.1))
        (λ no. inr (λ x. no (subst (λ d. (d.object.0 ≡ b) × IsTrue (is_at_end end d.act)) (same_Some x.0 call (sym x.1.1 ∙ e)) (x.1.0, x.2))))
        (both-or (number-or call.object.0 b) (true-or (is_at_end end call.act)))

-- the one point is inside a call on the object that the other one deletes, or it isn't
deleted-or : (P : Program) (p q : Point) → Decided (IsInsideDeleted P p q)
deleted-or P p q = by-test (deletes_used P p q) refl
  where
    by-test : (b : Bool) → deletes_used P p q ≡ b → Decided (IsInsideDeleted P p q)
    by-test true e = let c = found-clash P p q e in inl (c.object, c.call, c.inside, c.deletes)
    by-test false e = inr (λ x. false≢true (sym e ∙ clash-found P p q (record { object = x.0; call = x.1; inside = x.2; deletes = x.3 })))

-- whether the point owes the part
owed-or : (P : Program) (p : Point) (part : Part) → Decided (IsOwed P p part)
owed-or P p EntryPart = both-or (number-or p.pc 0) (side-or p.side Before)
owed-or P p (RulePart rule) = some-or (instr_of P p) (λ i. IsTrue (is_own i rule)) (λ i. true-or (is_own i rule))
owed-or P p (GoesPart t) = both-or (point-or P t) (actor-or t.actor p.actor)
owed-or P p (GuardPart buffer end) = end-or P p buffer end
owed-or P p (NearPart q) =
    ⊎_elim (λ h. inl (h.0, h.1.0, h.1.1)) (λ no. inr (λ x. no (x.0, (x.1, x.2))))
    (both-or (point-or P q) (both-or (not-or (actor-or q.actor p.actor)) (deleted-or P p q)))
owed-or P p (SpoiledPart q) = both-or (point-or P q) (not-or (actor-or q.actor p.actor))

-- what isn't owed is kept
unowed-kept : (P : Program) (C : Certificate) (p : Point) (part : Part) → (IsOwed P p part → ⊥) → IsKept P C p part
unowed-kept P C p EntryPart free = λ pc side. absurd (free (pc, side))
unowed-kept P C p (RulePart rule) free = λ i is own. absurd (free (i, is, own))
unowed-kept P C p (GoesPart t) free = λ at same. absurd (free (at, same))
unowed-kept P C p (GuardPart buffer end) free = λ call inside at. absurd (free (call, inside, at))
unowed-kept P C p (NearPart q) free = λ at apart o call inside deletes. absurd (free (at, apart, (o, call, inside, deletes)))
unowed-kept P C p (SpoiledPart q) free = λ at apart. absurd (free (at, apart))

pub failing-owed : OnlyOwedPartsFail
failing-owed P C p part fails = ⊎_elim (λ h. h) (λ no. absurd (fails (unowed-kept P C p part no))) (owed-or P p part)
