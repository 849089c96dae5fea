-- The state is one of the application, after each step.
use Rattle.fr_rules.specs.State.{IsWellFormed}
use Rattle.fr_lanes.proofs.steps.put_steps.Given as goal

abbrev pub invariant-loop-number : goal.invariant-loop-number
invariant-loop-number l = IsWellFormed l.app l.state
