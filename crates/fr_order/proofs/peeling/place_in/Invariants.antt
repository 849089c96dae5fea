use Rattle.std.proofs.Common.{◌≡◌, ◌<◌, ℕ, false, get_or}
use Rattle.std.specs.Prelude.{nat_eq}
use Rattle.fr_order.proofs.peeling.place_in.Given as goal

-- the mutex isn't at any of the places so far
abbrev pub invariant-loop-place : goal.invariant-loop-place
invariant-loop-place l = (k : ℕ) → k < l.place → nat_eq (get_or l.mutexes k l.mutex).0 l.mutex.0 ≡ false
