use Rattle.std.proofs.Common.{below_more, sym, subst}
use Rattle.fr_notes.proofs.Terms.{new_range, IsPart, joint_range}
use Rattle.fr_notes.proofs.ChangeLaws.{at-map}
use Rattle.fr_notes.proofs.kept.says_ranges.Goals as goal

pub loop-variable-preserved : goal.loop-variable-preserved
loop-variable-preserved c =
    below_more _ _ c.loop-variable.invariant (subst (λ r. IsPart (new_range c.args.change.now c.loop-variable.variable (joint_range c.args.known.now c.loop-variable.variable)) r) (sym (at-map c.args.ranges.now c.loop-variable.variable c.index-ranges-variable.result c.loop-variable-test.true c.index-ranges-variable.is)) (c.says_range.ensures.0 c.if-not-says_range.false))
