use Rattle.fr_order.proofs.Terms.{AreInside}
use Rattle.fr_order.proofs.EdgeLemmas.{HasTakesAmong}
use Rattle.fr_order.proofs.edges.takes_of.Given as goal

abbrev pub invariant-loop-number : goal.invariant-loop-number
invariant-loop-number l = record { inside : AreInside l.app l.object.0 l.takes.items; among : HasTakesAmong l.app l.object.0 l.all l.takes.items l.number-index }
