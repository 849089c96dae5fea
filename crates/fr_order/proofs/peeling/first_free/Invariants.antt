use Rattle.std.proofs.Common.{◌<◌, ℕ, get_or}
use Rattle.fr_order.proofs.Terms.{ObjId, Edge, Blocks}
use Rattle.fr_order.proofs.peeling.first_free.Given as goal

-- to each mutex of the rest so far leads an edge from one that isn't in the order
abbrev pub invariant-loop-place : goal.invariant-loop-place
invariant-loop-place l = (k : ℕ) (d : ObjId) → k < l.place → (e : Edge) × Blocks l.edges l.order (get_or l.rest k d).0 e
