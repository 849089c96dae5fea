use Rattle.fr_order.proofs.Terms.{AreAmong}
use Rattle.fr_order.proofs.cycle.reach.Given as goal

abbrev pub invariant-loop-edge : goal.invariant-loop-edge
invariant-loop-edge l = AreAmong l.edges l.reached.items
