use Rattle.fr_order.proofs.Terms.{AreEdges, HasEdgesBelow}
use Rattle.fr_order.proofs.edges.edges_of.Given as goal

abbrev pub invariant-loop-number : goal.invariant-loop-number
invariant-loop-number l = record { edges : AreEdges l.app l.notes l.edges.items; below : HasEdgesBelow l.app l.notes l.edges.items l.number }
