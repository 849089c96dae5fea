use Rattle.fr_order.proofs.Terms.{AreEdges, HasEdgesBelow, HasEdgesFrom}
use Rattle.fr_order.proofs.edges.add_edges.Given as goal

abbrev pub invariant-loop-number : goal.invariant-loop-number
invariant-loop-number l = record {
  edges : AreEdges l.app l.notes l.edges.items;
  below : HasEdgesBelow l.app l.notes l.edges.items l.taken.0;
  from : HasEdgesFrom l.app l.notes l.edges.items l.taken.0 l.number;
}
