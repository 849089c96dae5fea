use Rattle.std.proofs.Common.{◌≤◌, length, get_or, sym, subst, arith}
use Rattle.fr_interfere.proofs.Terms.{AllWithin, AllWithin-more, AllWithin-upto, All-from_all_within, at_read, Block, IsBlock, IsTold}
use Rattle.fr_interfere.proofs.ClosedLaws.{none-closed, told-still, all-told}
use Rattle.fr_interfere.proofs.rows.closed_actors.Goals as goal

pub loop-block-init : goal.loop-block-init
loop-block-init c = λ p here k d low high. absurd (omega (arith, high))

pub is_told-requires-clause-block : goal.is_told-requires-clause-block
is_told-requires-clause-block c =
    subst (IsBlock c.args.app.now c.args.notes.now) (sym c.block-item.is) (c.requires.each c.loop-block.block-index c.block-item.result c.loop-block-test.true)

pub returns-then-not-is_told : goal.returns-then-not-is_told
returns-then-not-is_told c = λ p here. none-closed c.args.app.now c.args.notes.now p 32

pub loop-block-preserved : goal.loop-block-preserved
loop-block-preserved c = λ p here.
    let P = c.args.app.now in
    let notes = c.args.notes.now in
    let i = c.loop-block.block-index in
    let old = c.loop-block.closed in
    let new = c.is_told.new.closed in
    let blocks = c.args.blocks.now in
    let Told : Block → Type 0 = λ b. IsTold P notes p new b in
    let before : AllWithin Told blocks 0 i = λ k d low high. told-still P notes p old new c.is_told.ensures.less (get_or blocks k d) (c.loop-block.invariant p here k d low high) in
    AllWithin-more Told blocks 0 i before (at_read blocks Told i c.block-item.result c.loop-block-test.true c.block-item.is (c.is_told.ensures.told p here c.if-not-is_told.false))

pub returns : goal.returns
returns c = λ p here.
    let P = c.args.app.now in
    let notes = c.args.notes.now in
    let blocks = c.args.blocks.now in
    let end : length blocks ≤ c.loop-block.block-index = c.loop-block-test.false in
    let Told : Block → Type 0 = λ b. IsTold P notes p c.loop-block.closed b in
    all-told P notes p c.loop-block.closed blocks c.requires.each c.requires.found
    (All-from_all_within Told blocks (AllWithin-upto Told blocks 0 c.loop-block.block-index (length blocks) end (c.loop-block.invariant p here)))
