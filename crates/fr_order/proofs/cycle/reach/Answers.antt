use Rattle.std.proofs.Common.{sym, subst}
use Rattle.fr_order.proofs.Terms.{Contains-get_or, AreAmong}
use Rattle.fr_order.proofs.WalkLemmas.{among-push, no-edge}
use Rattle.fr_order.proofs.cycle.reach.Goals as goal
use Rattle.fr_order.proofs.cycle.reach.Goals.{then-edge-from+then-is_none+in_ok-push, else-edge-from}

pub loop-edge-preserved : goal.loop-edge-preserved
loop-edge-preserved c =
    elim c.if-edge-from.branch [
      | then-edge-from+then-is_none+in_ok-push w ↦ subst (λ v. AreAmong c.args.edges.now v.items) (sym w.reached-is) (subst (λ v. AreAmong c.args.edges.now v) (sym w.in_ok-push.ensures.items) (among-push c.args.edges.now c.loop-edge.reached.items _ c.loop-edge.invariant (Contains-get_or c.args.edges.now c.loop-edge.edge-index no-edge c.loop-edge-test.true)))
      | else-edge-from w ↦ subst (λ v. AreAmong c.args.edges.now v.items) (sym w.reached-is) c.loop-edge.invariant
    ]
