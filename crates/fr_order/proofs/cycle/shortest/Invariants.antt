use Rattle.fr_order.proofs.Terms.{IsCycleOf}
use Rattle.fr_order.proofs.cycle.shortest.Given as goal

abbrev pub invariant-loop-more : goal.invariant-loop-more
invariant-loop-more l = IsCycleOf l.edges l.best.items
