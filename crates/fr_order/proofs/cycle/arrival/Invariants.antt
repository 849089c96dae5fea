use Rattle.std.proofs.Common.{◌≢◌, ◌<◌, ℕ, get_or}
use Rattle.fr_order.proofs.Terms.{Edge}
use Rattle.fr_order.proofs.cycle.arrival.Given as goal

-- no edge so far leads to the mutex
abbrev pub invariant-loop-place : goal.invariant-loop-place
invariant-loop-place l = (k : ℕ) (d : Edge) → k < l.place → (get_or l.edges k d).taken.0 ≢ l.mutex.0
