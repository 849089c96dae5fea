-- An entry that fails the test is one that isn't inside; one that passes it is one more that is.
use Rattle.std.proofs.Common.{refl, sym}
use Rattle.fr_notes.proofs.Terms.{AllWithin-more, at_read, refuted, IsNarrowing}
use Rattle.fr_notes.proofs.checks.check_spans.Goals as goal

pub returns-then-not-is_narrowing-clause-err : goal.returns-then-not-is_narrowing-clause-err
returns-then-not-is_narrowing-clause-err c =
    (refl, (c.loop-entry.entry-index, c.entry-item.result, c.loop-entry-test.true, sym c.entry-item.is, refuted _ c.if-not-is_narrowing.true c.is_narrowing.ensures.1))

pub loop-entry-preserved : goal.loop-entry-preserved
loop-entry-preserved c =
    let xs = c.args.narrower.now in
    let here = at_read xs (IsNarrowing c.args.app.now) c.loop-entry.entry-index c.entry-item.result c.loop-entry-test.true c.entry-item.is (c.is_narrowing.ensures.0 c.if-not-is_narrowing.false) in
    AllWithin-more (IsNarrowing c.args.app.now) xs 0 c.loop-entry.entry-index c.loop-entry.invariant here
