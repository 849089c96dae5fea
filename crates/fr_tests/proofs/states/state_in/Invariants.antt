use Rattle.fr_rules.specs.State.{IsWellFormed}
use Rattle.fr_tests.proofs.states.state_in.Given as goal

-- the state fits the application all along
abbrev pub invariant-loop-fact : goal.invariant-loop-fact
invariant-loop-fact l = IsWellFormed l.app l.state
