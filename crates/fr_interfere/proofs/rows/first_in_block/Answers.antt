-- Each point of the block is under its hull.
use Rattle.fr_interfere.proofs.ClosedLaws.{closed-block}
use Rattle.fr_interfere.proofs.RowLaws.{spared-points}
use Rattle.fr_interfere.proofs.rows.first_in_block.Goals as goal

pub returns-then-is_closed : goal.returns-then-is_closed
returns-then-is_closed c = λ p here.
    closed-block c.args.app.now c.args.notes.now p c.args.closed.now c.args.block.now (c.requires.closed p here) c.requires.block (c.is_closed.ensures c.if-is_closed.true)

pub returns-then-spares : goal.returns-then-spares
returns-then-spares c = λ p here.
    spared-points c.args.app.now c.recall_faultless.ensures c.args.notes.now c.requires.fit c.args.number p here c.point.result c.point.ensures c.at.result.now (c.at.ensures.is p here)
    c.args.block.now.hull c.args.block.now.numbers.items c.requires.block.under (c.spares.ensures.0 c.if-spares.true)
