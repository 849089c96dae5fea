use Rattle.std.proofs.Common.{below_more, get_or, subst}
use Rattle.std.proofs.lemmas.List.{get_or_default}
use Rattle.fr_order.proofs.Terms.{ObjId, Edge, Blocks}
use Rattle.fr_order.proofs.GraphLemmas.{some-there}
use Rattle.fr_order.proofs.peeling.first_free.Goals as goal

pub loop-place-preserved : goal.loop-place-preserved
loop-place-preserved c =
    let edges = c.args.edges.now in
    let order = c.args.order.now in
    let rest = c.args.rest.now in
    let i = c.loop-place.place in
    let x : ObjId = record { 0 = 0 } in
    let blocks = some-there (λ e. Blocks edges order (get_or rest i x).0 e) c.blocker.result c.blocker.ensures.some c.if-is_none.ensures in
    λ k d l. below_more (λ j. (d : ObjId) → (e : Edge) × Blocks edges order (get_or rest j d).0 e) i (λ j less d. c.loop-place.invariant j d less)
    (λ d. subst (λ y. (e : Edge) × Blocks edges order y.0 e) (get_or_default rest i x d c.loop-place-test.true) blocks) k l d
