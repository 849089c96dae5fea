use Rattle.std.proofs.Common.{sym, subst, arith, refl}
use Rattle.std.specs.Prelude.{Contains}
use Rattle.fr_notes.proofs.AlternativesLemmas.{among-case}
use Rattle.fr_effects.proofs.Terms.{Alternative, IsSparedByRows}
use Rattle.fr_effects.proofs.Lists.{item-fits}
use Rattle.fr_effects.proofs.disturbance.is_each_spared.Goals as goal

pub is_spared_beside_each-requires-clause-alternative : goal.is_spared_beside_each-requires-clause-alternative
is_spared_beside_each-requires-clause-alternative c =
    item-fits c.args.mover.now.app.now c.alternatives-alternative-items.result.now c.args.note.now c.loop-alternative.alternative-index c.alternative-item.result c.alternatives-alternative-items.ensures c.loop-alternative-test.true c.alternative-item.is c.requires

pub returns-then-not-is_spared_beside_each : goal.returns-then-not-is_spared_beside_each
returns-then-not-is_spared_beside_each c = λ p at ne. (
  λ t. cc,
  λ all.
      let here = subst (λ note. Contains note c.alternative-item.result) c.alternatives-alternative-items.ensures (c.loop-alternative.alternative-index, c.loop-alternative-test.true, sym c.alternative-item.is) in
      let t = (c.is_spared_beside_each.ensures p at ne).1 (λ m k. all c.alternative-item.result m here k) in
      let f = c.if-not-is_spared_beside_each.true in cc,
)

pub loop-alternative-preserved : goal.loop-alternative-preserved
loop-alternative-preserved c = λ p at ne n k.
    let P = c.args.mover.now.app.now in
    among-case ((m : Alternative) → Contains c.args.mover.now.note.now m → IsSparedByRows P p n c.args.mover.now.point m c.args.note.now) c.alternatives-alternative-items.result.now c.loop-alternative.alternative-index c.alternative-item.result n c.loop-alternative-test.true c.alternative-item.is k (λ old. c.loop-alternative.invariant p at ne n old) (λ e.
    subst (λ q. (m : Alternative) → Contains c.args.mover.now.note.now m → IsSparedByRows P p q c.args.mover.now.point m c.args.note.now) e ((c.is_spared_beside_each.ensures p at ne).0 c.if-not-is_spared_beside_each.false))

pub returns : goal.returns
returns c = λ p at ne. (
  λ t n m k.
      let g = subst (λ note. Contains note n) (sym c.alternatives-alternative-items.ensures) k in
      c.loop-alternative.invariant p at ne n (g.0, omega (arith, g.1), g.2) m,
  λ all. refl,
)
