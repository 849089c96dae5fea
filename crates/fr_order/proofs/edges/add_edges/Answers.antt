use Rattle.std.proofs.Common.{◌+◌, sym, subst, ◌∙◌, arith}
use Rattle.fr_order.proofs.Terms.{AreEdges, HasEdgesBelow, HasEdgesFrom}
use Rattle.fr_order.proofs.EdgeLemmas.{can-no, are-more, below-kept, from-more, from-other, below-next}
use Rattle.fr_order.proofs.edges.add_edges.Goals as goal
use Rattle.fr_order.proofs.edges.add_edges.Goals.{then-can_be_edge+in-Some+in_ok-push, then-can_be_edge+in_default, else-can_be_edge}

pub loop-number-preserved : goal.loop-number-preserved
loop-number-preserved c =
    let P = c.args.app.now in
    let notes = c.args.notes.now in
    let m = c.args.taken.0 in
    let n = c.loop-number.number in
    let edges = c.loop-number.edges.items in
    let inv = c.loop-number.invariant in
    elim c.if-can_be_edge.branch [
      | then-can_be_edge+in-Some+in_ok-push w ↦
          let e = w.in-Some.edge in
          let ends = w.in-Some.ensures.ends in
          record {
            edges = subst (λ v. AreEdges P notes v.items) (sym w.edges-is) (subst (λ v. AreEdges P notes v) (sym w.in_ok-push.ensures.items) (are-more P notes edges e n m ends.0 ends.1 w.in-Some.ensures.edge (omega (arith, c.loop-number-test.true, c.object_count-number-end.ensures)) c.requires.taken inv.edges));
            below = subst (λ v. HasEdgesBelow P notes v.items m) (sym w.edges-is) (subst (λ v. HasEdgesBelow P notes v m) (sym w.in_ok-push.ensures.items) (below-kept P notes edges e m inv.below));
            from = subst (λ v. HasEdgesFrom P notes v.items m (n + 1)) (sym w.edges-is) (subst (λ v. HasEdgesFrom P notes v m (n + 1)) (sym w.in_ok-push.ensures.items) (from-more P notes edges e m n ends.0 ends.1 inv.from));
          }
      | then-can_be_edge+in_default w ↦ record {
        edges = subst (λ v. AreEdges P notes v.items) (sym w.edges-is) inv.edges;
        below = subst (λ v. HasEdgesBelow P notes v.items m) (sym w.edges-is) inv.below;
        from = subst (λ v. HasEdgesFrom P notes v.items m (n + 1)) (sym w.edges-is) (from-other P notes edges m n w.in_default.ensures.none inv.from);
      }
      | else-can_be_edge w ↦ record {
        edges = subst (λ v. AreEdges P notes v.items) (sym w.edges-is) inv.edges;
        below = subst (λ v. HasEdgesBelow P notes v.items m) (sym w.edges-is) inv.below;
        from = subst (λ v. HasEdgesFrom P notes v.items m (n + 1)) (sym w.edges-is) (from-other P notes edges m n (λ p e. can-no P n m (sym c.can_be_edge.ensures ∙ w.if-can_be_edge.false) (record { mutex = e.mutex; again = e.again })) inv.from);
      }
    ]

pub returns-clause-all : goal.returns-clause-all
returns-clause-all c = below-next c.args.app.now c.args.notes.now c.loop-number.edges.items c.args.taken.0 c.loop-number.number c.requires.fit (omega (arith, c.loop-number-test.false, c.object_count-number-end.ensures)) c.loop-number.invariant.below c.loop-number.invariant.from
