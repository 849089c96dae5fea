-- Each point of the row is under its hull, and in one of its blocks.
use Rattle.std.proofs.Common.{sym, subst}
use Rattle.std.specs.Prelude.{All}
use Rattle.fr_interfere.proofs.Terms.{IsBlock, IsInSome, IsListed}
use Rattle.fr_interfere.proofs.RowLaws.{spared-points}
use Rattle.fr_interfere.proofs.SpoilerLaws.{first-fewer}
use Rattle.fr_interfere.proofs.rows.Row.first.Goals as goal

pub returns-then-spares : goal.returns-then-spares
returns-then-spares c = λ p here.
    spared-points c.args.app.now c.recall_faultless.ensures c.args.notes.now c.requires.fit c.args.number p here c.point.result c.point.ensures c.at.result.now (c.at.ensures.is p here)
    c.args.self.now.hull c.args.numbers.now c.requires.row.whole (c.spares.ensures.0 c.if-spares.true)

pub first_in_blocks-requires-clause-blocks : goal.first_in_blocks-requires-clause-blocks
first_in_blocks-requires-clause-blocks c =
    subst (λ bs. All (λ b. IsBlock c.args.app.now c.args.notes.now b) bs) (sym c.deref.ensures.value) c.requires.row.each

pub returns : goal.returns
returns c = λ p here.
    let P = c.args.app.now in
    let row = c.args.self.now in
    first-fewer P c.args.notes.now p (IsInSome P c.deref.result.now) (IsListed P c.args.numbers.now)
    (λ q at listed. subst (λ bs. IsInSome P bs q) (sym c.deref.ensures.value) (c.requires.row.found q at listed))
    c.first_in_blocks.result (c.first_in_blocks.ensures p here)
