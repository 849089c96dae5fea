use Rattle.std.proofs.Common.{sym, subst}
use Rattle.fr_order.proofs.Terms.{AreAmong}
use Rattle.fr_order.proofs.cycle.reach_all.Goals as goal
use Rattle.fr_order.proofs.cycle.reach_all.Goals.{then-done-len+in_ok-reached-2, else-done-len}

pub loop-done-preserved : goal.loop-done-preserved
loop-done-preserved c =
    elim c.if-done-len.branch [
      | then-done-len+in_ok-reached-2 w ↦ subst (λ v. AreAmong c.args.edges.now v.items) (sym w.reached-is) w.in_ok-reached-2.ensures
      | else-done-len w ↦ subst (λ v. AreAmong c.args.edges.now v.items) (sym w.reached-is) c.loop-done.invariant
    ]
