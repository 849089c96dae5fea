-- No actor up to here is in a cycle.
use Rattle.std.proofs.Common.{ℕ, ◌<◌}
use Rattle.fr_waits.specs.Waits.{IsInCycle}
use Rattle.fr_waits.proofs.cycle.deadlock_in.Given as goal

abbrev pub invariant-loop-actor : goal.invariant-loop-actor
invariant-loop-actor l = (a : ℕ) → a < l.actor → IsInCycle l.app l.state a → ⊥
