use Rattle.std.proofs.Common.{sym, subst, arith, refl}
use Rattle.std.specs.Prelude.{Contains}
use Rattle.fr_notes.proofs.AlternativesLemmas.{among-case}
use Rattle.fr_edge.proofs.Terms.{GoesWell}
use Rattle.fr_edge.proofs.Lists.{item-fits}
use Rattle.fr_edge.proofs.steps.all_go_well.Goals as goal

pub goes_well-requires-clause-fits : goal.goes_well-requires-clause-fits
goes_well-requires-clause-fits c =
    item-fits c.args.spot.now.app.now c.alternatives-alternative-items.result.now c.args.spot.now.note.now c.loop-alternative.alternative-index c.alternative-item.result c.alternatives-alternative-items.ensures c.loop-alternative-test.true c.alternative-item.is c.args.spot.now.fits.1

pub returns-then-not-goes_well : goal.returns-then-not-goes_well
returns-then-not-goes_well c = (
  λ t. cc,
  λ all.
      let here = subst (λ note. Contains note c.alternative-item.result) c.alternatives-alternative-items.ensures (c.loop-alternative.alternative-index, c.loop-alternative-test.true, sym c.alternative-item.is) in
      let t = c.goes_well.ensures.1 (all c.alternative-item.result here) in
      let f = c.if-not-goes_well.true in cc,
)

pub loop-alternative-preserved : goal.loop-alternative-preserved
loop-alternative-preserved c = λ n k.
    among-case (GoesWell c.args.spot.now.app.now c.args.spot.now.point n c.args.way c.args.next.now) c.alternatives-alternative-items.result.now c.loop-alternative.alternative-index c.alternative-item.result n c.loop-alternative-test.true c.alternative-item.is k (λ old. c.loop-alternative.invariant n old) (λ e.
    subst (λ q. GoesWell c.args.spot.now.app.now c.args.spot.now.point q c.args.way c.args.next.now) e (c.goes_well.ensures.0 c.if-not-goes_well.false))

pub returns : goal.returns
returns c = (
  λ t n k.
      let g = subst (λ note. Contains note n) (sym c.alternatives-alternative-items.ensures) k in
      c.loop-alternative.invariant n (g.0, omega (arith, g.1), g.2),
  λ all. refl,
)
