use Rattle.std.proofs.Common.{get_or, sym, ap, ◌∙◌, arith, ⊎_elim}
use Rattle.fr_order.proofs.Terms.{eqb_tells}
use Rattle.std.proofs.Common.{below_more}
use Rattle.std.proofs.lemmas.List.{get_or_default}
use Rattle.std.proofs.lemmas.Bool.{eq-eqb}
use Rattle.fr_order.proofs.GraphLemmas.{place-is, place-none}
use Rattle.fr_order.proofs.peeling.place_in.Goals as goal

pub loop-place-preserved : goal.loop-place-preserved
loop-place-preserved c =
    let xs = c.args.mutexes.now in
    let m = c.args.mutex in
    let i = c.loop-place.place in
    let same = get_or_default xs i m (record { 0 = 0 }) c.loop-place-test.true in
    below_more _ _ c.loop-place.invariant
    (⊎_elim (λ h. absurd (c.if-other-mutex.false (sym (ap (λ o. o.0) same) ∙ h.1))) (λ h. h.0) (eqb_tells (get_or xs i m).0 m.0))

pub returns-then-other-mutex : goal.returns-then-other-mutex
returns-then-other-mutex c =
    let xs = c.args.mutexes.now in
    let m = c.args.mutex in
    let i = c.loop-place.place in
    let same = get_or_default xs i m (record { 0 = 0 }) c.loop-place-test.true in
    sym (place-is xs m.0 i m c.loop-place-test.true c.loop-place.invariant (eq-eqb _ _ (ap (λ o. o.0) same ∙ c.if-other-mutex.true)))

pub returns : goal.returns
returns c = sym (place-none c.args.mutexes.now c.args.mutex.0 c.args.mutex (λ k l. c.loop-place.invariant k (omega (arith, l, c.loop-place-test.false))))
