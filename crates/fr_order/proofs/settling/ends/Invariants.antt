use Rattle.fr_order.proofs.Terms.{AreEnds}
use Rattle.fr_order.proofs.EndLemmas.{HasEndsBelow}
use Rattle.fr_order.proofs.settling.ends.Given as goal

abbrev pub invariant-loop-number : goal.invariant-loop-number
invariant-loop-number l = record { below : HasEndsBelow l.edges l.ends.items l.number; only : AreEnds l.edges l.ends.items }
