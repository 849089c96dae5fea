-- None of the waits up to here is of the actor.
use Rattle.std.proofs.Common.{◌≢◌, ◌<◌, ℕ, get_or}
use Rattle.fr_waits.specs.declared.wait.Wait.{Wait}
use Rattle.fr_waits.proofs.cycle.place_in.Given as goal

abbrev pub invariant-loop-k : goal.invariant-loop-k
invariant-loop-k l = (j : ℕ) (d : Wait) → j < l.k → (get_or l.trail j d).actor.0 ≢ l.actor.0
