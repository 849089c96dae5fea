-- The moves are the actor's choices, so what a word picks of them is a choice of a step; and a state that keeps the
-- notes has no breach, and no depth or count over 255.
use Rattle.std.proofs.Common.{◌≡◌, ◌↔◌, ◌%◌, ℕ, List, length, Some, refl, sym, subst, rules}
use Rattle.std.specs.Prelude.{ℤ, slice_get}
use Rattle.std.proofs.lemmas.Int.{to_z-of_z}
use mir.Syntax.{w64}
use mir.Val.{SFits, to_z, of_z}
use Rattle.fr_program.specs.Program.{Program}
use Rattle.fr_calls.specs.declared.moves.Moves.{Moves}
use Rattle.fr_rules.specs.State.{State}
use Rattle.fr_rules.specs.declared.rules.Rule.TheVariants.{InRange}
use Rattle.fr_rules.specs.Rule.{Breach}
use Rattle.fr_rules.specs.Step.{Step}
use Rattle.fr_rules.specs.Choices.{CanChoose}
use Rattle.fr_calls.specs.Moves.{IsAmong, IsRising}
use Rattle.fr_runner.specs.Listed.{listed}
use Rattle.fr_runner.specs.Trace.{AreChoices, IsChosen}
use Rattle.fr_runner.proofs.Listing.{are-choices, contains-at}
use Rattle.fr_runner.proofs.Shallow.{shallow-stepper}
use Rattle.fr_runner.proofs.turn.turn.Goals as goal
use Rattle.fr_runner.proofs.turn.turn.Goals.{In-Some}

-- what a word picks of an actor's choices
pub record Picked (P : Program) (S : State) (a word : ℕ) (c : ℤ) : Type 0 where
  pub choices : List ℤ
  pub all : AreChoices P S a choices
  pub at : slice_get choices (word % length choices) ≡ Some c
  pub can : CanChoose P S a c

-- the choice that the turn takes
picked : (P Q : Program) (S : State) (a word : ℕ) (moves : Moves) (c : ℤ) → Q ≡ P → IsRising moves → ((x : ℤ) → (IsAmong moves x ↔ CanChoose Q S a x)) → slice_get (listed moves) (word % length (listed moves)) ≡ Some c → Picked P S a word c
picked P Q S a word moves c same rising exact e =
    let all = are-choices P S a moves rising (subst (λ R. (x : ℤ) → (IsAmong moves x ↔ CanChoose R S a x)) same exact) in
    record { choices = listed moves; all = all; at = e; can = (all.exact c).0 (contains-at (listed moves) (word % length (listed moves)) c e) }

here : (c : In-Some) → Picked c.args.passed.now.app c.args.state.now c.args.actor.0 c.args.word c.in-Some.choice
here c = picked _ _ _ _ c.args.word c.moves.result c.in-Some.choice c.app-app.ensures c.moves.ensures.rising c.moves.ensures.exact c.in-Some.ensures.some

pub returns-in_default-clause-entry : goal.returns-in_default-clause-entry
returns-in_default-clause-entry c = (
  c.requires.actor,
  (λ x can.
      let Q = c.app-app.result.now in
      let S = c.args.state.now in
      let a = c.args.actor.0 in
      let among = (c.moves.ensures.exact x).1 (subst (λ R. CanChoose R S a x) (sym c.app-app.ensures) can) in
      subst (λ m. IsAmong m x) (c.in_default.ensures.none) among),
  refl,
)

fits : (c : In-Some) → to_z w64 (of_z w64 c.in-Some.choice) ≡ c.in-Some.choice
fits c = let narrow : SFits w64 c.in-Some.choice = search rules in to_z-of_z w64 c.in-Some.choice narrow

pub apply-requires-clause-choice : goal.apply-requires-clause-choice
apply-requires-clause-choice c =
    let at = (goal.at.apply-requires-clause-choice c).In-Some in
    subst (λ z. CanChoose c.app-app.result.now c.args.state.now c.args.actor.0 z) (sym (fits at))
    (subst (λ R. CanChoose R c.args.state.now c.args.actor.0 c.in-Some.choice) (sym c.app-app.ensures) (here at).can)

pub apply-requires-clause-in_range : goal.apply-requires-clause-in_range
apply-requires-clause-in_range c =
    subst (λ R. Breach R c.args.state.now InRange c.args.actor.0 → ⊥) (sym c.app-app.ensures)
    (c.notes_exclude_breaches.ensures c.args.passed.now.app c.args.passed.now.certificate c.recall_certified.ensures.certified c.args.state.now c.requires.notes InRange c.args.actor.0)

pub apply-requires-clause-shallow : goal.apply-requires-clause-shallow
apply-requires-clause-shallow c =
    let at = (goal.at.apply-requires-clause-shallow c).In-Some in
    shallow-stepper c.args.passed.now.app c.args.passed.now.certificate c.args.state.now c.args.actor c.in-Some.choice c.recall_certified.ensures.fits c.requires.notes (here at).can

pub returns-clause-entry : goal.returns-clause-entry
returns-clause-entry c =
    let at = (goal.at.returns-clause-entry c).In-Some in
    let P = c.args.passed.now.app in
    let S = c.args.state.now in
    let a = c.args.actor.0 in
    let p = here at in
    let chosen : IsChosen P S a c.args.word c.in-Some.choice = (p.choices, p.all, p.at) in
    (subst (λ z. IsChosen P S a c.args.word z) (sym (fits at)) chosen, subst (λ R. Step R S a (to_z w64 (of_z w64 c.in-Some.choice)) c.apply.new.self) c.app-app.ensures c.in_ok-apply.ensures.step)

pub returns-clause-notes : goal.returns-clause-notes
returns-clause-notes c =
    c.a_step_keeps_notes.ensures c.args.passed.now.app c.args.passed.now.certificate c.recall_certified.ensures.certified c.args.state.now c.args.actor.0 _ c.apply.new.self c.requires.notes
    (subst (λ R. Step R c.args.state.now c.args.actor.0 (to_z w64 (of_z w64 c.in-Some.choice)) c.apply.new.self) c.app-app.ensures c.in_ok-apply.ensures.step)
