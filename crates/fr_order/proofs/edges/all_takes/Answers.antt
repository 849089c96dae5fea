use Rattle.std.proofs.Common.{◌+◌, sym, subst, ◌∙◌, arith}
use Rattle.fr_order.proofs.Terms.{instr_of, ArePoints, HasTakesBelow}
use Rattle.fr_order.proofs.EdgeLemmas.{not-inside, points-more, below-more, below-other, below-all}
use Rattle.fr_order.proofs.edges.all_takes.Goals as goal
use Rattle.fr_order.proofs.edges.all_takes.Goals.{then-is_inside_any_take+in_ok-push, else-is_inside_any_take}

pub loop-number-preserved : goal.loop-number-preserved
loop-number-preserved c =
    let P = c.args.app.now in
    let n = c.loop-number.number in
    let p = c.point.result in
    let takes = c.loop-number.takes.items in
    elim c.if-is_inside_any_take.branch [
      | then-is_inside_any_take+in_ok-push w ↦ record {
        points = subst (λ v. ArePoints P v.items) (sym w.takes-is) (subst (λ v. ArePoints P v) (sym w.in_ok-push.ensures.items) (points-more P takes n (omega (arith, c.loop-number-test.true, c.points-number-end.ensures)) c.loop-number.invariant.points));
        all = λ m. subst (λ v. HasTakesBelow P m v.items (n + 1)) (sym w.takes-is) (subst (λ v. HasTakesBelow P m v (n + 1)) (sym w.in_ok-push.ensures.items) (below-more P m takes n (c.loop-number.invariant.all m)));
      }
      | else-is_inside_any_take w ↦ record {
        points = subst (λ v. ArePoints P v.items) (sym w.takes-is) c.loop-number.invariant.points;
        all = λ m. subst (λ v. HasTakesBelow P m v.items (n + 1)) (sym w.takes-is) (below-other P m takes n p c.point.ensures (not-inside p.side (instr_of P p) m (sym c.is_inside_any_take.ensures ∙ w.if-is_inside_any_take.false)) (c.loop-number.invariant.all m));
      }
    ]

pub returns : goal.returns
returns c = record { points = c.loop-number.invariant.points; all = λ m. below-all c.args.app.now m c.loop-number.takes.items c.loop-number.number _ (omega (arith, c.loop-number-test.false, c.points-number-end.ensures)) (c.loop-number.invariant.all m) }
