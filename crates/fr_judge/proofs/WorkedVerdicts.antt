-- The worked verdicts. Both applications have one point. The step of `goto 0` changes nothing and comes back to it, so
-- every part is kept. Before `return` the parts that come before rule 11 are kept, and the start shows that rule 11 isn't.
use Rattle.std.proofs.Common.{◌≡◌, ℕ, zero, suc, ◌<◌, ◌≤◌, [], ◌∷◌, length, refl, sym, ap, ◌∙◌, subst, inl, inr, ⊎_elim, true≢false, arith}
use Rattle.std.specs.Prelude.{ℤ, IsTrue, Contains, ◌||◌, true, All}
use Rattle.std.specs.Cmp.Lexicographic.{nat_list_eq_equiv}
use Rattle.std.proofs.lemmas.Int.{ints}
use Rattle.fr_judge.proofs.Terms.{same_Some, All-cons, All-nil, Instr, Goto, Return, Point, Side, Before, Inside, EachInstr, EndsWell, IsFaultless, HasSide, IsPlace, IsPoint, actor_at, ActorOf, State}
use Rattle.fr_judge.proofs.Terms.{At, Exists, IsWellFormed, place_of, start, goes_to, Rule, OneWriter, OneReader, GivenByHolder, IsLive, LifeInOrder, EndsInOrder, InRange, Breaches, number_of, Way}
use Rattle.fr_judge.proofs.Terms.{StepBy, Row, landing, transition, HoldsOne, note_at, IsAt, Goes, is_own, HasDistinctTurns, Part, EntryPart, RulePart, GoesPart, GuardPart, NearPart, SpoiledPart}
use Rattle.fr_judge.proofs.Terms.{IsKept, ComesBefore, place_in_order}
use Rattle.std.proofs.lemmas.Map.Views.{list_any-from_Contains}
use Rattle.fr_program.specs.Limits.{IsName, is_letter, is_digit, reserved, VariableInLimits, KindInLimits, most_instructions}
use Rattle.fr_rules.specs.declared.way.Way.TheVariants.{Then, Else}
use Rattle.fr_judge.specs.WorkedVerdicts.{only_line, only_point, silent, one_note, RoundIsYes, RoundIsCertified, ReturnIsNo}
use Rattle.fr_judge.proofs.Here.{rule-kept, steps-by}

-- one point, where the instruction is no object call

none : ⊥ → ⊥
none h = h

one-place : (i : Instr) → (HasSide i Inside → ⊥) → (a pc : ℕ) (side : Side) → IsPlace (only_line i) a pc side → (a ≡ 0) × (pc ≡ 0) × (side ≡ Before)
one-place i free zero zero Before x = (refl, refl, refl)
one-place i free zero zero Inside x = absurd (free (subst (λ j. HasSide j Inside) (sym (same_Some _ _ x.1)) x.2))
one-place i free zero (suc pc) side x = let e = x.1 in cc
one-place i free (suc a) pc side x = let e = x.1 in cc

one-point : (i : Instr) → (HasSide i Inside → ⊥) → (p : Point) → IsPoint (only_line i) p → p ≡ only_point
one-point i free p x =
    let e = one-place i free p.actor.0 p.pc p.side x in
    let point : ℕ → ℕ → Side → Point = λ a pc side. record { actor = record { 0 = a }; pc = pc; side = side } in
    ap (λ a. point a p.pc p.side) e.0 ∙ ap (λ pc. point 0 pc p.side) e.1 ∙ ap (λ side. point 0 0 side) e.2

-- the note holds of the actor at the start
silent-holds : (i : Instr) → HoldsOne silent 0 (start (only_line i))
silent-holds i = record { critical = refl; suspended = refl; objects = λ o. refl; variables = λ x. (omega (arith, ints), omega (arith, ints)) }

-- the parts of `goto 0`

round-free : (rule : Rule) → IsTrue (is_own (Goto 0) rule) → (S : State) → Breaches (only_line (Goto 0)) S 0 Before (Goto 0) rule → ⊥
round-free OneWriter own S b = cc
round-free OneReader own S b = cc
round-free GivenByHolder own S b = b
round-free IsLive own S b = let e = b.1 in cc
round-free LifeInOrder own S b = b
round-free InRange own S b = b
round-free rule own S b = cc

-- the step leads to the same place and changes nothing else
round-back : (way : Way) (S : State) (c : ℤ) (S' : State) → IsAt S only_point → StepBy (only_line (Goto 0)) way S 0 c S' → S' ≡ goes_to 0 (At 0 Before) S
round-back way S c S' at t =
    let by = steps-by (only_line (Goto 0)) only_point (Goto 0) refl way S c S' at t in by-way way by.0 by.1 by.2
  where
    by-way : (way : Way) (mid : State) → Row (only_line (Goto 0)) (transition S 0 c mid) Before (Goto 0) way → S' ≡ goes_to 0 (landing 0 Before (Goto 0) way) mid → S' ≡ goes_to 0 (At 0 Before) S
    by-way Then mid row moved = moved ∙ ap (λ T. goes_to 0 (At 0 Before) T) row.1
    by-way Else mid row moved = elim row [ ]

round-goes : (t : Point) → Goes (only_line (Goto 0)) one_note.notes only_point t
round-goes t at same m inside way can = (
  m,
  subst (λ q. Contains (note_at (only_line (Goto 0)) one_note.notes q) m) (sym (one-point (Goto 0) none t at)) inside,
  λ T d T' by step lands.
      subst (λ U. HoldsOne m 0 U) (sym (round-back way T d T' by.at step)) (unmoved T by.holds),
)
  where
    unmoved : (T : State) → HoldsOne m 0 T → HoldsOne m 0 (goes_to 0 (At 0 Before) T)
    unmoved T h = record { critical = h.critical; suspended = h.suspended; objects = h.objects; variables = h.variables }

round-kept : (part : Part) → IsKept (only_line (Goto 0)) one_note only_point part
round-kept EntryPart = λ pc side. (silent, (0, omega arith, refl), silent-holds (Goto 0))
round-kept (RulePart rule) = rule-kept (only_line (Goto 0)) only_point (Goto 0) refl one_note.notes rule (λ S noted own. round-free rule own S)
round-kept (GoesPart t) = round-goes t
round-kept (GuardPart buffer end) = λ call inside. let none = inside.1 in cc
round-kept (NearPart q) = λ at apart o call inside. let none = inside.1 in cc
round-kept (SpoiledPart q) = λ at apart. absurd (apart (ap (λ p. p.actor) (one-point (Goto 0) none q at)))

pub round-is-yes : RoundIsYes
round-is-yes p x part =
    subst (λ q. IsKept (only_line (Goto 0)) one_note q part) (sym (one-point (Goto 0) none p x)) (round-kept part)

-- the application of `goto 0` has no fault

-- what is true of the one instruction is true of each
each : (F : ℕ → Instr → Type 0) → F 0 (Goto 0) → EachInstr (only_line (Goto 0)) F
each F h zero zero i e = subst (λ j. F 0 j) (same_Some _ _ e) h
each F h zero (suc pc) i e = cc
each F h (suc a) pc i e = cc

-- and of the one actor
one-actor : (Q : ActorOf → Type 0) → Q (actor_at (only_line (Goto 0)) 0) → All Q (only_line (Goto 0)).actors
one-actor Q h = All-cons Q _ [] h (All-nil Q)

t-is-name : IsName (116 ∷ [])
t-is-name = record {
  some = omega arith;
  short = omega arith;
  letters = All-cons (λ c. (is_letter c || is_digit c) ≡ true) 116 [] refl (All-nil (λ c. (is_letter c || is_digit c) ≡ true));
  first = refl;
  free = λ h. true≢false (sym (list_any-from_Contains nat_list_eq_equiv (116 ∷ []) reserved h));
}

round-faultless : IsFaultless (only_line (Goto 0))
round-faultless = record {
  small = record { actors = omega arith; variables = omega arith; objects = omega arith; code = one-actor (λ a. length a.code ≤ most_instructions) (omega arith) };
  limits = record { variables = All-nil VariableInLimits; objects = All-nil (λ o. KindInLimits o.kind); code = each _ tt };
  targets = each _ (omega arith);
  ends = one-actor EndsWell (0, refl, tt);
  shared = each _ (omega arith);
  owners = each _ (All-nil _);
  kinds = each _ tt;
  forms = each _ tt;
  results = each _ tt;
  operands = each _ tt;
  names = record {
    names = All-cons IsName (116 ∷ []) [] t-is-name (All-nil IsName);
    once = λ i j d l h e. absurd (omega (arith, l, h));
    things = each _ (All-nil _, tt);
    owners = All-nil _;
  };
}

pub round-is-certified : RoundIsCertified
round-is-certified = record { faultless = round-faultless; turns = All-nil (λ e. HasDistinctTurns e.guard); kept = round-is-yes }

-- the parts of `return`

-- it breaches no rule of less than 11
return-free : (rule : Rule) → number_of rule < 11 → IsTrue (is_own Return rule) → (S : State) → Breaches (only_line Return) S 0 Before Return rule → ⊥
return-free OneWriter l own S b = cc
return-free OneReader l own S b = cc
return-free GivenByHolder l own S b = b
return-free IsLive l own S b = let e = b.1 in cc
return-free LifeInOrder l own S b = b
return-free EndsInOrder l own S b = absurd (omega (arith, l))
return-free InRange l own S b = b
return-free rule l own S b = cc

later-kind : {Q : Type 0} (m k n : ℕ) → 1 < m → ComesBefore (m, k) (1, n) → Q
later-kind m k n l (inl h) = absurd (omega (arith, l, h))
later-kind m k n l (inr h) = absurd (omega (arith, l, h.0))

return-parts : (other : Part) → ComesBefore (place_in_order (only_line Return) other) (1, 11) → IsKept (only_line Return) one_note only_point other
return-parts EntryPart h = λ pc side. (silent, (0, omega arith, refl), silent-holds Return)
return-parts (RulePart rule) h =
    rule-kept (only_line Return) only_point Return refl one_note.notes rule (λ S noted own. return-free rule (⊎_elim (λ l. absurd (omega (arith, l))) (λ l. l.1) h) own S)
return-parts (GoesPart t) h = later-kind 2 _ 11 (omega arith) h
return-parts (GuardPart buffer end) h = later-kind 3 _ 11 (omega arith) h
return-parts (NearPart q) h = later-kind 4 _ 11 (omega arith) h
return-parts (SpoiledPart q) h = later-kind 5 _ 11 (omega arith) h

start-formed : IsWellFormed (only_line Return) (start (only_line Return))
start-formed = record { actors = refl; suspensions = refl; variables = refl; objects = refl; places = places; contents = λ o. tt; critical = tt }
  where
    places : (a : ℕ) → Exists (only_line Return) a (place_of (start (only_line Return)) a)
    places zero = (Return, refl, tt)
    places (suc a) = tt

return-fails : IsKept (only_line Return) one_note only_point (RulePart EndsInOrder) → ⊥
return-fails kept =
    kept Return refl refl (start (only_line Return))
    (record { formed = start-formed; at = refl; holds = (silent, (0, omega arith, refl), silent-holds Return) })
    (record { side = Before; instr = Return; stands = record { pc = 0; at = refl; is = refl }; breaches = refl })

pub return-is-no : ReturnIsNo
return-is-no = record {
  point = (Return, refl, tt);
  first = record { fails = return-fails; before = return-parts };
  before = λ q x l other. absurd (omega (arith, l));
}
