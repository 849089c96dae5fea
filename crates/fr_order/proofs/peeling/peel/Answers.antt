use Rattle.std.proofs.Common.{◌<◌, length, inr, sym, subst}
use Rattle.fr_order.proofs.Terms.{All-nil, IsEnd, AreEnds}
use Rattle.fr_order.proofs.PeelLemmas.{none-listed, peel-more, ends-moved, peeled}
use Rattle.fr_order.proofs.peeling.peel.Goals as goal

pub free-init : goal.free-init
free-init c = record {
  upward = λ k d l listed. absurd (none-listed c.new-order.result.items _ c.new-order.ensures.items listed);
  sorted = λ k d l. let r = c.requires.each k d l in (inr r.0, inr r.1);
  ends = subst (λ v. AreEnds c.args.edges.now v) (sym c.new-order.ensures.items) (All-nil (λ m. IsEnd c.args.edges.now m.0));
  left = c.requires.only;
}

pub free-preserved : goal.free-preserved
free-preserved c =
    let more = peel-more c.args.edges.now c.free.order.items c.free.rest.items c.deref.result.now c.deref-in-free.result.now c.push.new.self.items c.remove.new.self.items c.in-Some.place c.remove.result c.deref.ensures.value c.deref-in-free.ensures.value c.in-Some.ensures.within c.in-Some.ensures.some c.remove.ensures.value c.in_ok-push.ensures.items c.remove.ensures.items c.free.invariant.upward c.free.invariant.sorted in
    let ends = ends-moved c.args.edges.now c.free.order.items c.free.rest.items c.push.new.self.items c.remove.new.self.items c.in-Some.place c.remove.result (subst (λ v. c.in-Some.place < length v) c.deref-in-free.ensures.value c.in-Some.ensures.within) c.remove.ensures.value c.in_ok-push.ensures.items c.remove.ensures.items c.free.invariant.ends c.free.invariant.left in
    record { upward = more.0; sorted = more.1; ends = ends.0; left = ends.1 }

pub returns : goal.returns
returns c = peeled c.args.edges.now c.free.order.items c.free.rest.items c.deref.result.now c.deref-in-free.result.now c.deref.ensures.value c.deref-in-free.ensures.value c.in_default.ensures.none c.free.invariant.upward c.free.invariant.sorted c.free.invariant.ends
