use Rattle.std.proofs.Common.{◌≡◌, take}
use Rattle.fr_rules.specs.State.{IsWellFormed, start}
use Rattle.fr_changes.specs.Explained.{steps_in, AreExplained}
use Rattle.fr_changes.proofs.run.explained.Given as goal

-- the steps so far are explained, and lead to a state of the application
abbrev pub invariant-loop-step : goal.invariant-loop-step
invariant-loop-step l = record {
  formed : IsWellFormed l.app l.state;
  steps : steps_in l.steps.items ≡ take l.step-index l.taken;
  states : AreExplained l.app (start l.app) l.steps.items l.state;
}
