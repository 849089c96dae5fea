use Rattle.std.proofs.Common.{◌+◌, sym, subst, ◌∙◌, arith, get_or}
use Rattle.fr_order.proofs.Terms.{AreInside}
use Rattle.fr_order.proofs.EdgeLemmas.{HasTakesAmong, inside-yes, takes-more, among-more, among-other, among-all, among-whole}
use Rattle.fr_order.proofs.edges.takes_of.Goals as goal
use Rattle.fr_order.proofs.edges.takes_of.Goals.{then-is_inside_take+in_ok-push, else-is_inside_take}

pub loop-number-preserved : goal.loop-number-preserved
loop-number-preserved c =
    let P = c.args.app.now in
    let m = c.args.object.0 in
    let all = c.args.all.now in
    let n = c.loop-number.number-index in
    let p = c.point.result in
    let takes = c.loop-number.takes.items in
    let inv = c.loop-number.invariant in
    elim c.if-is_inside_take.branch [
      | then-is_inside_take+in_ok-push w ↦ record {
        inside = subst (λ v. AreInside P m v.items) (sym w.takes-is) (subst (λ v. AreInside P m v) (sym w.in_ok-push.ensures.items) (takes-more P m takes (get_or all n 0) p (c.requires.points n 0 c.loop-number-test.true) c.point.ensures (inside-yes P p m (sym c.is_inside_take.ensures ∙ w.if-is_inside_take.true)) inv.inside));
        among = subst (λ v. HasTakesAmong P m all v.items (n + 1)) (sym w.takes-is) (subst (λ v. HasTakesAmong P m all v (n + 1)) (sym w.in_ok-push.ensures.items) (among-more P m all takes n inv.among));
      }
      | else-is_inside_take w ↦ record {
        inside = subst (λ v. AreInside P m v.items) (sym w.takes-is) inv.inside;
        among = subst (λ v. HasTakesAmong P m all v.items (n + 1)) (sym w.takes-is) (among-other P m all takes n p c.point.ensures (sym c.is_inside_take.ensures ∙ w.if-is_inside_take.false) inv.among);
      }
    ]

pub returns : goal.returns
returns c = record { inside = c.loop-number.invariant.inside; all = among-all c.args.app.now c.args.object.0 c.args.all.now c.loop-number.takes.items c.requires (among-whole c.args.app.now c.args.object.0 c.args.all.now c.loop-number.takes.items c.loop-number.number-index (omega (arith, c.loop-number-test.false)) c.loop-number.invariant.among) }
