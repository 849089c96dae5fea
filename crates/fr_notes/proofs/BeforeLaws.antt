-- The steps before an instruction as the code has them.
use Rattle.std.proofs.Common.{◌≡◌, ℕ, [], ◌++◌, length, Option, sym, ap, ◌∙◌, subst, inl, inr}
use Rattle.std.specs.Prelude.{◌<◌, ◌⊎◌, All}
use Rattle.fr_notes.proofs.Terms.{All-head, All-tail, VarId, Point, Instr, Set, Operand, Number, Variable, Operator, Plus, Minus, Times, Range, Program, operand_variables, IsConstant, AreApart}
use Rattle.fr_notes.proofs.Terms.{OperandsFit, Way, Change, Known, IsLeft, IsNamed, LeavesBefore, unchanged}

pub as-made : (P : Program) (k : Known) (p : Point) (way : Way) (change made : Change) → change ≡ made → IsLeft P k p way made → IsLeft P k p way change
as-made P k p way change made e left = subst (λ x. IsLeft P k p way x) (sym e) left

-- what a row of an instruction leaves, where it is this one
pub left-here : (P : Program) (k : Known) (i j : Instr) (w v : Way) (change : Option Change) → i ≡ j → w ≡ v → LeavesBefore P k j v change → LeavesBefore P k i w change
left-here P k i j w v change is by h = subst (λ x. LeavesBefore P k x w change) (sym is) (subst (λ x. LeavesBefore P k j x change) (sym by) h)

pub crit-made : (k : Known) (u : Change) → u ≡ unchanged k → (d e : ℕ) → d ≡ e → record u { crit = d } ≡ record (unchanged k) { crit = e }
crit-made k u same d e f = ap (λ (v : Change). record v { crit = d }) same ∙ ap (λ (n : ℕ). record (unchanged k) { crit = n }) f

pub susp-made : (k : Known) (u : Change) → u ≡ unchanged k → (d e : ℕ) → d ≡ e → record u { susp = d } ≡ record (unchanged k) { susp = e }
susp-made k u same d e f = ap (λ (v : Change). record v { susp = d }) same ∙ ap (λ (n : ℕ). record (unchanged k) { susp = n }) f

pub first-made : (k : Known) (u : Change) → u ≡ unchanged k → (first : Option (VarId × Range)) → record u { first = first } ≡ record (unchanged k) { first = first }
first-made k u same first = ap (λ (v : Change). record v { first = first }) same

pub both-made : (k : Known) (u : Change) → u ≡ unchanged k → (first second f g : Option (VarId × Range)) → first ≡ f → second ≡ g → record u { first = first; second = second } ≡ record (unchanged k) { first = f; second = g }
both-made k u same first second f g a b =
    ap (λ (v : Change). record v { first = first; second = second }) same ∙ ap (λ (x : Option (VarId × Range)). record (unchanged k) { first = x; second = second }) a ∙ ap (λ (x : Option (VarId × Range)). record (unchanged k) { first = f; second = x }) b

named : (P : Program) (o : Operand) → All (λ x. x.0 < length P.variables) (operand_variables o) → IsNamed P o
named P (Number z) h = tt
named P (Variable x) h = All-head (λ x. x.0 < length P.variables) x [] h

-- the application has the variables of both operands
pub both-named : (P : Program) (l r : Operand) → All (λ x. x.0 < length P.variables) (operand_variables l ++ operand_variables r) → IsNamed P l × IsNamed P r
both-named P (Number z) r h = (tt, named P r h)
both-named P (Variable x) r h = (All-head (λ x. x.0 < length P.variables) x (operand_variables r) h, named P r (All-tail (λ x. x.0 < length P.variables) x (operand_variables r) h))

constant-apart : (l r : Operand) → (IsConstant l ⊎ IsConstant r) → AreApart l r
constant-apart (Number z) r h = tt
constant-apart (Variable x) (Number z) h = tt
constant-apart (Variable x) (Variable y) (inl c) = absurd c
constant-apart (Variable x) (Variable y) (inr c) = absurd c

pub set-apart : (x : VarId) (l : Operand) (op : Operator) (r : Operand) → OperandsFit (Set x l op r) → AreApart l r
set-apart x l Plus r h = h
set-apart x l Minus r h = h
set-apart x l Times r h = constant-apart l r h
