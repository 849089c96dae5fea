use Rattle.std.proofs.Common.{below_more, sym, ◌∙◌}
use Rattle.fr_edge.proofs.StartLaws.{claim-made, claim-tells}
use Rattle.fr_edge.proofs.entry.begins_with_claims.Goals as goal

pub returns-then-not-begins_as : goal.returns-then-not-begins_as
returns-then-not-begins_as c =
    (λ h. cc, λ h. sym c.if-not-begins_as.true ∙ c.begins_as.ensures ∙ claim-tells c.args.claims.now c.args.objects.now c.loop-o.o _ c.index-objects-o.result c.loop-o-test.true c.requires c.index-objects-o.is (h c.loop-o.o c.loop-o-test.true))

pub loop-o-preserved : goal.loop-o-preserved
loop-o-preserved c =
    below_more _ _ c.loop-o.invariant (claim-made c.args.claims.now c.args.objects.now c.loop-o.o _ c.index-objects-o.result c.loop-o-test.true c.requires c.index-objects-o.is (sym c.begins_as.ensures ∙ c.if-not-begins_as.false))
