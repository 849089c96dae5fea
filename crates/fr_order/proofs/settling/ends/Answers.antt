use Rattle.std.proofs.Common.{◌+◌, sym, subst, refl, arith}
use Rattle.fr_order.proofs.Terms.{AreEnds}
use Rattle.fr_order.proofs.EndLemmas.{HasEndsBelow, ends-other, ends-more, ends-all, only-more}
use Rattle.fr_order.proofs.settling.ends.Goals as goal
use Rattle.fr_order.proofs.settling.ends.Goals.{then-is_end+in_ok-push, else-is_end}

pub loop-number-preserved : goal.loop-number-preserved
loop-number-preserved c =
    let edges = c.args.edges.now in
    let ends = c.loop-number.ends.items in
    let n = c.loop-number.number in
    let inv = c.loop-number.invariant in
    elim c.if-is_end.branch [
      | then-is_end+in_ok-push w ↦ record {
        below = subst (λ v. HasEndsBelow edges v.items (n + 1)) (sym w.ends-is) (subst (λ v. HasEndsBelow edges v (n + 1)) (sym w.in_ok-push.ensures.items) (ends-more edges ends n (record { 0 = n }) refl inv.below));
        only = subst (λ v. AreEnds edges v.items) (sym w.ends-is) (subst (λ v. AreEnds edges v) (sym w.in_ok-push.ensures.items) (only-more edges ends (record { 0 = n }) inv.only (c.is_end.ensures.yes w.if-is_end.true)));
      }
      | else-is_end w ↦ record {
        below = subst (λ v. HasEndsBelow edges v.items (n + 1)) (sym w.ends-is) (ends-other edges ends n inv.below (c.is_end.ensures.no w.if-is_end.false));
        only = subst (λ v. AreEnds edges v.items) (sym w.ends-is) inv.only;
      }
    ]

pub returns : goal.returns
returns c = ends-all c.args.edges.now c.loop-number.ends.items c.args.mutexes c.loop-number.number (omega (arith, c.loop-number-test.false)) c.requires c.loop-number.invariant.below c.loop-number.invariant.only
