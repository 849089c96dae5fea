-- The variables of an instruction are those in its three places.
use Rattle.std.proofs.Common.{◌≡◌, List, [], ◌++◌, Option, None, Some, All, IfSome, subst, sym}
use Rattle.std.proofs.lemmas.List.Elements.{All-nil, All-cons, All-head, All-tail}
use Rattle.fr_program.specs.declared.ids.VarId.{VarId}
use Rattle.fr_program.specs.declared.check.uses.Uses.{Uses}
use Rattle.fr_program.specs.Uses.{option_list}
use Rattle.fr_program.specs.InstrFault.{used, InEachPlace}

-- what holds of the variable of one place, where there is one, and of the others
pub All-place : (P : VarId → Type 0) (o : Option VarId) (xs : List VarId) → IfSome o P → All P xs → All P (option_list o ++ xs)
All-place P None xs holds each = each
All-place P (Some x) xs holds each = All-cons P x xs holds each

pub place-All : (P : VarId → Type 0) (o : Option VarId) (xs : List VarId) → All P (option_list o ++ xs) → IfSome o P × All P xs
place-All P None xs each = (tt, each)
place-All P (Some x) xs each = (All-head P x xs each, All-tail P x xs each)

pub All-last : (P : VarId → Type 0) (o : Option VarId) → IfSome o P → All P (option_list o)
All-last P None holds = All-nil P
All-last P (Some x) holds = All-cons P x [] holds (All-nil P)

pub last-All : (P : VarId → Type 0) (o : Option VarId) → All P (option_list o) → IfSome o P
last-All P None each = tt
last-All P (Some x) each = All-head P x [] each

-- the same of all three places, where these are the variables of an instruction
pub All-used : (P : VarId → Type 0) (u : Uses) (xs : List VarId) → used u ≡ xs → InEachPlace P u → All P xs
All-used P u xs is places =
    subst (All P) is (All-place P u.target _ places.0 (All-place P u.left _ places.1 (All-last P u.right places.2)))

pub used-All : (P : VarId → Type 0) (u : Uses) (xs : List VarId) → used u ≡ xs → All P xs → InEachPlace P u
used-All P u xs is each =
    let first = place-All P u.target (option_list u.left ++ option_list u.right) (subst (All P) (sym is) each) in
    let second = place-All P u.left (option_list u.right) first.1 in
    (first.0, second.0, last-All P u.right second.1)
