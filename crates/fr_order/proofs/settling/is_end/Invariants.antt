use Rattle.std.proofs.Common.{◌≢◌, ◌<◌, ℕ, get_or}
use Rattle.fr_order.proofs.Terms.{Edge}
use Rattle.fr_order.proofs.settling.is_end.Given as goal

-- the mutex isn't at an end of an edge so far
abbrev pub invariant-loop-edge : goal.invariant-loop-edge
invariant-loop-edge l = (k : ℕ) (d : Edge) → k < l.edge-index → ((get_or l.edges k d).held.0 ≢ l.mutex.0) × ((get_or l.edges k d).taken.0 ≢ l.mutex.0)
