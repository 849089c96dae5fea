-- One more step that is explained, and one more actor.
use Rattle.std.proofs.Common.{◌≡◌, ◌+◌, ◌<◌, ℕ, List, [], ◌∷◌, ◌++◌, take, length, get_or, map, refl, ap, ◌∙◌, subst, sym}
use Rattle.std.proofs.lemmas.List.{map-append, take_more}
use Rattle.fr_program.specs.Program.{Program}
use Rattle.fr_program.specs.declared.ids.ActorId.{ActorId}
use Rattle.fr_rules.specs.State.{State, place_of}
use Rattle.fr_changes.specs.declared.changes.ExplainedStep.{ExplainedStep}
use Rattle.fr_changes.specs.Explained.{AreExplained, IsAfter, IsBefore, IsIn}
use Rattle.fr_wording.specs.declared.standing.Standing.{Standing}
use Rattle.fr_wording.specs.Standings.{IsPlaced, place_said}

-- a list of what things have, with that of one more
pub one-more : {A B : Type 0} (of : A → B) (xs : List A) (a : A) (ys : List B) (k : ℕ) (y : B) → map of xs ≡ take k ys → of a ≡ get_or ys k y →
    k < length ys → map of (xs ++ a ∷ []) ≡ take (k + 1) ys
one-more of xs a ys k y were same below =
    map-append of xs (a ∷ []) ∙ ap (λ them. them ++ of a ∷ []) were ∙ ap (λ b. take k ys ++ b ∷ []) same ∙ sym (take_more ys k y below)

-- an actor is where it is said to be, where that is said of this actor
pub is-in : (P : Program) (S : State) (actor : ActorId) (s : Standing) → IsPlaced P actor s → place_said s ≡ place_of S actor.0 → IsIn P S s
is-in P S actor s (same, here) is = (here, is ∙ ap (λ a. place_of S a.0) (sym same))

-- one more step, from the state that the others lead to
pub explained-more : (P : Program) (S T U : State) (steps : List ExplainedStep) (step : ExplainedStep) → AreExplained P S steps T → IsBefore P T step →
    IsAfter P T step.taken U → AreExplained P S (steps ++ step ∷ []) U
explained-more P S T U [] step is before after =
    (subst (λ s. IsBefore P s step) (sym is) before, U, subst (λ s. IsAfter P s step.taken U) (sym is) after, refl)
explained-more P S T U (x ∷ steps) step (its, mid, leads, rest) before after = (its, mid, leads, explained-more P mid T U steps step rest before after)
