-- Each point is covered in turn, and what was covered stays so.
use Rattle.std.proofs.Common.{arith}
use Rattle.fr_interfere.proofs.Terms.{IsUnder}
use Rattle.fr_effects.proofs.IndexLaws.{checked-more, checked-point}
use Rattle.fr_interfere.proofs.hull.Hull.of.Goals as goal

pub loop-number-preserved : goal.loop-number-preserved
loop-number-preserved c =
    checked-more c.args.app.now (λ q. IsUnder c.args.app.now c.args.notes.now c.cover_point.new.self q) c.args.numbers.now c.loop-number.number-index
    (λ j l q e. c.cover_point.ensures.keeps q (c.loop-number.invariant j l q e))
    (λ q e. c.cover_point.ensures.covers q e)

pub returns : goal.returns
returns c = λ q there listed.
    let P = c.args.app.now in
    let notes = c.args.notes.now in
    c.trim.ensures P notes q
    (checked-point P (λ r. IsUnder P notes c.loop-number.hull r) c.args.numbers.now c.recall_numbered.ensures c.loop-number.number-index c.loop-number.invariant q there listed
    (λ j long is. omega (arith, long, c.loop-number-test.false)))
