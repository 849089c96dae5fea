-- An alternative that passes the test is one more that implies some other one.
use Rattle.fr_notes.proofs.Terms.{AllWithin-more, at_read, ImpliesSome}
use Rattle.fr_notes.proofs.implication.imply_each.Goals as goal

pub loop-alternative-preserved : goal.loop-alternative-preserved
loop-alternative-preserved c =
    let xs = c.args.alternatives.now in
    let F = ImpliesSome c.args.others.now in
    let here = at_read xs F c.loop-alternative.alternative-index c.alternative-item.result c.loop-alternative-test.true c.alternative-item.is (c.implies_some.ensures.0 c.if-not-implies_some.false) in
    AllWithin-more F xs 0 c.loop-alternative.alternative-index c.loop-alternative.invariant here
