use Rattle.std.proofs.Common.{length, refl, sym, ◌∙◌, subst, arith}
use Rattle.std.proofs.lemmas.Option.{slice_get_read}
use Rattle.fr_interfere.proofs.Terms.{same_Some, IsBlock, IsInSome, IsBelow, IsListed}
use Rattle.fr_interfere.proofs.RowLaws.{IsInBlock}
use Rattle.fr_interfere.proofs.SpoilerLaws.{first-fewer, one-more, none-yet}
use Rattle.fr_interfere.proofs.rows.first_in_blocks.Goals as goal

pub first_in_block-requires-clause-block : goal.first_in_block-requires-clause-block
first_in_block-requires-clause-block c =
    subst (IsBlock c.args.app.now c.args.notes.now) (sym c.block-item.is) (c.requires.blocks c.loop-block.block-index c.block-item.result c.loop-block-test.true)

pub loop-block-init : goal.loop-block-init
loop-block-init c = λ p here. none-yet c.args.app.now c.args.notes.now p (IsInBlock c.args.app.now c.args.blocks.now)

pub loop-block-preserved : goal.loop-block-preserved
loop-block-preserved c = λ p here.
    let P = c.args.app.now in
    let blocks = c.args.blocks.now in
    let i = c.loop-block.block-index in
    let b = c.block-item.result in
    let there = slice_get_read blocks (length blocks) i b refl c.loop-block-test.true c.block-item.is in
    one-more P c.args.notes.now p (IsInBlock P blocks) i c.loop-block.least c.first_in_block.result c.lesser-least.result c.lesser-least.ensures (c.loop-block.invariant p here)
    (first-fewer P c.args.notes.now p (IsListed P b.numbers.items) (IsInBlock P blocks i)
    (λ q at (k, is, listed). subst (λ x. IsListed P x.numbers.items q) (same_Some _ _ (sym is ∙ there)) listed)
    c.first_in_block.result (c.first_in_block.ensures p here))

pub returns : goal.returns
returns c = λ p here.
    let P = c.args.app.now in
    let blocks = c.args.blocks.now in
    first-fewer P c.args.notes.now p (IsBelow (IsInBlock P blocks) c.loop-block.block-index) (IsInSome P blocks)
    (λ q at (k, b, l, is, listed). (k, omega (arith, l, c.loop-block-test.false), (b, slice_get_read blocks (length blocks) k b refl l (sym is), listed)))
    c.loop-block.least (c.loop-block.invariant p here)
