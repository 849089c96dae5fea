use Rattle.std.proofs.Common.{below_more}
use Rattle.fr_notes.proofs.kept.spares_claims.Goals as goal

pub loop-object-preserved : goal.loop-object-preserved
loop-object-preserved c = below_more _ _ c.loop-object.invariant (c.spares_claim.ensures.0 c.if-not-spares_claim.false)
