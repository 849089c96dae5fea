use Rattle.fr_order.proofs.Terms.{AreAmong}
use Rattle.fr_order.proofs.cycle.reach_all.Given as goal

abbrev pub invariant-loop-done : goal.invariant-loop-done
invariant-loop-done l = AreAmong l.edges l.reached.items
