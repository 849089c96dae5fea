use Rattle.fr_rules.specs.State.{IsWellFormed}
use Rattle.fr_witness.proofs.scene.with_empty_objects.Given as goal

-- the state fits the application all along
abbrev pub invariant-loop-number : goal.invariant-loop-number
invariant-loop-number l = IsWellFormed l.app l.state
