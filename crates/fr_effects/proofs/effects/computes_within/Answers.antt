use Rattle.fr_effects.proofs.BearLaws.{set-within}
use Rattle.fr_effects.proofs.effects.computes_within.Goals as goal

pub returns : goal.returns
returns c = set-within c.args.mover.now c.alone.result c.alone.ensures c.args.left c.args.operator c.args.right c.result-span.result c.args.range c.result-span.ensures c.within.result c.within.ensures
