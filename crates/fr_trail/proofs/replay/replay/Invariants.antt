use Rattle.fr_rules.specs.State.{IsWellFormed}
use Rattle.fr_trail.proofs.replay.replay.Given as goal

-- the steps so far lead to a state of the application
abbrev pub invariant-loop-item : goal.invariant-loop-item
invariant-loop-item l = IsWellFormed l.app l.state
