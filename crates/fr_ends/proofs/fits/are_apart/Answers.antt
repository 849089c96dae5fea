use Rattle.fr_ends.proofs.TwiceLemmas.{again, apart_so_far}
use Rattle.fr_ends.proofs.fits.are_apart.Goals as goal

pub returns-then-is_listed : goal.returns-then-is_listed
returns-then-is_listed c =
    again c.args.ends.now c.loop-index.index c.index-ends-index.result c.is_listed.result c.loop-index-test.true c.index-ends-index.is c.is_listed.ensures c.if-is_listed.true

pub loop-index-preserved : goal.loop-index-preserved
loop-index-preserved c =
    apart_so_far c.args.ends.now c.loop-index.index c.index-ends-index.result c.is_listed.result c.loop-index-test.true c.index-ends-index.is c.is_listed.ensures c.if-is_listed.false c.loop-index.invariant
