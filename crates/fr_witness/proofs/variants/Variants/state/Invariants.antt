use Rattle.fr_rules.specs.State.{IsWellFormed}
use Rattle.fr_witness.proofs.variants.Variants.state.Given as goal

-- the state fits the application all along
abbrev pub invariant-loop-list : goal.invariant-loop-list
invariant-loop-list l = IsWellFormed l.app l.state
