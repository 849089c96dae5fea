use Rattle.fr_order.proofs.EdgeLemmas.{NoEdgeAt}
use Rattle.fr_order.proofs.edges.first_edge.Given as goal

abbrev pub invariant-loop-number : goal.invariant-loop-number
invariant-loop-number l = NoEdgeAt l.app l.notes l.held.0 l.taken.0 l.takes l.number-index
