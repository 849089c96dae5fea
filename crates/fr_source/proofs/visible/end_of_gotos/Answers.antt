-- One goto more.
use Rattle.fr_source.proofs.Glides.{glides-none, glides-goto}
use Rattle.fr_source.proofs.visible.end_of_gotos.Goals as goal

pub loop-init : goal.loop-init
loop-init c = λ v. glides-none _ _ v _

pub loop-preserved : goal.loop-preserved
loop-preserved c = λ v. glides-goto _ _ v _ _ _ (c.loop.invariant v) c.in-Some.ensures
