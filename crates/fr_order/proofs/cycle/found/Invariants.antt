use Rattle.std.proofs.Common.{◌≢◌, ◌<◌, ℕ, get_or}
use Rattle.fr_order.proofs.Terms.{ObjId}
use Rattle.fr_order.proofs.cycle.found.Given as goal

-- the mutex isn't at any of the places so far
abbrev pub invariant-loop-place : goal.invariant-loop-place
invariant-loop-place l = (k : ℕ) (d : ObjId) → k < l.place → (get_or l.mutexes k d).0 ≢ l.mutex.0
