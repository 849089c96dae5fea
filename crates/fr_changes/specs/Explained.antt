-- The steps of a run, each with where its actor was before it.
--
-- | word              | meaning                                                                         |
-- |-------------------|---------------------------------------------------------------------------------|
-- | steps_in          | the steps that are explained                                                    |
-- | IsBefore, IsAfter | where an actor is in the state before its step; the state after the step        |
-- | AreExplained      | steps from one state to another, each with where its actor was before it        |
-- | IsIn              | an actor is in this state where it is said to be                                |
-- | IsExplainedRun    | the steps of a run from the start, and where actors are in the state after them |
use Rattle.std.specs.Prelude.{◌≡◌, List, [], ◌∷◌, All, map}
use Rattle.fr_program.specs.Program.{Program}
use Rattle.fr_rules.specs.Choices.{CanChoose}
use Rattle.fr_rules.specs.State.{State, place_of, start}
use Rattle.fr_rules.specs.Step.{Step}
use Rattle.fr_states.specs.declared.step.StepTaken.{StepTaken}
use Rattle.fr_states.specs.Mover.{IsMover}
use Rattle.fr_changes.specs.declared.changes.ExplainedStep.{ExplainedStep}
use Rattle.fr_wording.specs.declared.standing.Standing.{Standing}
use Rattle.fr_wording.specs.Standings.{IsHere, IsPlaced, place_said}

-- the steps that are explained
abbrev pub steps_in : List ExplainedStep → List StepTaken
steps_in steps = map (λ step. step.taken) steps

-- the actor of the step is in the state before it where it is said to be
abbrev pub IsBefore : Program → State → ExplainedStep → Type 0
IsBefore P S step = IsPlaced P step.taken.actor step.before × (place_said step.before ≡ place_of S step.taken.actor.0)

-- the state after the step, where it can be taken
abbrev pub IsAfter : Program → State → StepTaken → State → Type 0
IsAfter P S step T = IsMover P S step.actor.0 → CanChoose P S step.actor.0 step.choice → Step P S step.actor.0 step.choice T

-- the steps lead from S to T, and each has the place of its actor in the state before it
abbrev pub AreExplained : Program → State → List ExplainedStep → State → Type 0
AreExplained P S [] T = S ≡ T
AreExplained P S (step ∷ rest) T = IsBefore P S step × (mid : State) × IsAfter P S step.taken mid × AreExplained P mid rest T

-- the actor is in this state where it is said to be
abbrev pub IsIn : Program → State → Standing → Type 0
IsIn P S s = IsHere P s × (place_said s ≡ place_of S s.actor.0)

-- the steps are those of a run from the start, and these are places of actors in the state after them
abbrev pub IsExplainedRun : Program → List ExplainedStep → List Standing → Type 0
IsExplainedRun P steps lasts = (T : State) × AreExplained P (start P) steps T × All (IsIn P T) lasts
