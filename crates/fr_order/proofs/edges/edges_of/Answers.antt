use Rattle.std.proofs.Common.{arith}
use Rattle.fr_order.proofs.edges.edges_of.Goals as goal

pub returns-clause-all : goal.returns-clause-all
returns-clause-all c = λ p h m l e. c.loop-number.invariant.below p h m (omega (arith, l, c.loop-number-test.false, c.object_count-number-end.ensures)) e
