use Rattle.std.specs.Prelude.{vec_len}
use Rattle.fr_order.proofs.Terms.{IsUpward, AreRest, AreEnds}
use Rattle.fr_order.proofs.peeling.peel.Given as goal

abbrev pub invariant-free : goal.invariant-free
invariant-free l = record {
  upward : IsUpward l.edges l.order.items;
  sorted : AreRest l.edges l.order.items l.rest.items;
  ends : AreEnds l.edges l.order.items;
  left : AreEnds l.edges l.rest.items;
}

abbrev pub decreases-free : goal.decreases-free
decreases-free l = vec_len l.rest
