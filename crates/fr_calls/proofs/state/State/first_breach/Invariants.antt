use Rattle.fr_calls.proofs.Breached.{NoneUpTo}
use Rattle.fr_calls.proofs.state.State.first_breach.Given as goal

-- nobody breaches one of the rules so far
abbrev pub invariant-loop-rule : goal.invariant-loop-rule
invariant-loop-rule l = NoneUpTo l.app l.self l.rule-index
