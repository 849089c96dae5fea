use Rattle.std.proofs.Common.{sym, subst, arith, refl}
use Rattle.std.specs.Prelude.{Contains}
use Rattle.fr_notes.proofs.AlternativesLemmas.{among-case}
use Rattle.fr_effects.proofs.Terms.{IsSparedByRows}
use Rattle.fr_effects.proofs.Lists.{item-fits}
use Rattle.fr_effects.proofs.disturbance.is_spared_beside_each.Goals as goal

pub is_spared-requires-clause-other : goal.is_spared-requires-clause-other
is_spared-requires-clause-other c =
    item-fits c.args.mover.now.app.now c.alternatives-other-items.result.now c.args.mover.now.note.now c.loop-other.other-index c.other-item.result c.alternatives-other-items.ensures c.loop-other-test.true c.other-item.is c.args.mover.now.fits

pub returns-then-not-is_spared : goal.returns-then-not-is_spared
returns-then-not-is_spared c = λ p at ne. (
  λ t. cc,
  λ all.
      let here = subst (λ note. Contains note c.other-item.result) c.alternatives-other-items.ensures (c.loop-other.other-index, c.loop-other-test.true, sym c.other-item.is) in
      let t = (c.is_spared.ensures p at ne).1 (all c.other-item.result here) in
      let f = c.if-not-is_spared.true in cc,
)

pub loop-other-preserved : goal.loop-other-preserved
loop-other-preserved c = λ p at ne m k.
    among-case (IsSparedByRows c.args.mover.now.app.now p c.args.alternative.now c.args.mover.now.point m c.args.note.now) c.alternatives-other-items.result.now c.loop-other.other-index c.other-item.result m c.loop-other-test.true c.other-item.is k (λ old. c.loop-other.invariant p at ne m old) (λ e.
    subst (λ q. IsSparedByRows c.args.mover.now.app.now p c.args.alternative.now c.args.mover.now.point q c.args.note.now) e ((c.is_spared.ensures p at ne).0 c.if-not-is_spared.false))

pub returns : goal.returns
returns c = λ p at ne. (
  λ t m k.
      let g = subst (λ note. Contains note m) (sym c.alternatives-other-items.ensures) k in
      c.loop-other.invariant p at ne m (g.0, omega (arith, g.1), g.2),
  λ all. refl,
)
