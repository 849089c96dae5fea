use Rattle.std.proofs.Common.{arith}
use Rattle.fr_order.proofs.EdgeLemmas.{no-edge-there}
use Rattle.fr_order.proofs.edges.first_edge.Goals as goal

pub returns-clause-none : goal.returns-clause-none
returns-clause-none c = no-edge-there c.args.app.now c.args.notes.now c.args.held.0 c.args.taken.0 c.args.takes.now c.requires.takes (λ k l. c.loop-number.invariant k (omega (arith, l, c.loop-number-test.false)))
