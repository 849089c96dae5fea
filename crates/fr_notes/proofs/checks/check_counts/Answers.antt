-- An entry that fails the test is one that can't be; one that passes it is one more that can.
use Rattle.std.proofs.Common.{get_or, refl, sym}
use Rattle.fr_notes.proofs.Terms.{get_or_default, AllWithin-more, at_read, refuted, IsCount}
use Rattle.fr_notes.proofs.checks.check_counts.Goals as goal

pub returns-then-not-may_be_held-clause-err : goal.returns-then-not-may_be_held-clause-err
returns-then-not-may_be_held-clause-err c =
    let xs = c.args.held.now in
    let k = c.loop-entry.entry-index in
    (refl, (k, get_or xs k (record { 0 = 0 }, 0), c.loop-entry-test.true, get_or_default xs k _ _ c.loop-entry-test.true, refuted _ c.if-not-may_be_held.true c.may_be_held.ensures.1))

pub loop-entry-preserved : goal.loop-entry-preserved
loop-entry-preserved c =
    let xs = c.args.held.now in
    let k = c.loop-entry.entry-index in
    let here = at_read xs (IsCount c.args.app.now) k (get_or xs k (record { 0 = 0 }, 0)) c.loop-entry-test.true (sym (get_or_default xs k _ _ c.loop-entry-test.true)) (c.may_be_held.ensures.0 c.if-not-may_be_held.false) in
    AllWithin-more (IsCount c.args.app.now) xs 0 k c.loop-entry.invariant here
