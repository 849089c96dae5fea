use Rattle.std.proofs.Common.{◌≡◌, ◌<◌, ℕ, get_or}
use Rattle.fr_order.proofs.Terms.{Edge, IsListed}
use Rattle.fr_order.proofs.peeling.blocker.Given as goal

-- each edge to the mutex so far comes from one in the order
abbrev pub invariant-loop-edge : goal.invariant-loop-edge
invariant-loop-edge l = (k : ℕ) (d : Edge) → k < l.edge-index → (get_or l.edges k d).taken.0 ≡ l.mutex.0 → IsListed l.order (get_or l.edges k d).held.0
