use Rattle.std.proofs.Common.{below_more, sym, ◌∙◌}
use Rattle.fr_edge.proofs.StartLaws.{begins-made, begins-tells}
use Rattle.fr_edge.proofs.entry.begins_with_ranges.Goals as goal

pub returns-then-not-begins_in : goal.returns-then-not-begins_in
returns-then-not-begins_in c =
    (λ h. cc, λ h. sym c.if-not-begins_in.true ∙ c.begins_in.ensures.1 (begins-tells c.args.ranges.now c.args.variables.now c.loop-x.x c.index-ranges-x.result c.index-variables-x.result c.loop-x-test.true c.requires c.index-ranges-x.is c.index-variables-x.is (h c.loop-x.x c.loop-x-test.true)))

pub loop-x-preserved : goal.loop-x-preserved
loop-x-preserved c =
    below_more _ _ c.loop-x.invariant (begins-made c.args.ranges.now c.args.variables.now c.loop-x.x c.index-ranges-x.result c.index-variables-x.result c.loop-x-test.true c.requires c.index-ranges-x.is c.index-variables-x.is (c.begins_in.ensures.0 c.if-not-begins_in.false))
