-- The notes hold in every state of every run, by the soundness of the verdict.
use Rattle.fr_order.proofs.DeadlockLaw.{order-excludes}
use Rattle.fr_order.proofs.laws.an_order_excludes_deadlock.Goals as goal

pub returns : goal.returns
returns c = order-excludes c.certified_is_safe.ensures
