use Rattle.std.proofs.Common.{get_or, refl, sym, ◌∙◌, subst, arith, ⊎_elim}
use Rattle.std.specs.Prelude.{All}
use Rattle.fr_interfere.proofs.Terms.{cases_lt, get_or_default, Excludes}
use Rattle.fr_interfere.proofs.hull.Hull.excludes_each.Goals as goal

pub returns-then-not-excludes : goal.returns-then-not-excludes
returns-then-not-excludes c = (
  λ t. cc,
  λ all.
      let h = c.args.self.now in
      let i = c.loop-alternative.alternative-index in
      let each = subst (λ ns. All (λ n. Excludes h n) ns) (sym c.alternatives-alternative-items.ensures) all in
      let t = c.excludes.ensures.1 (subst (λ n. Excludes h n) (sym c.alternative-item.is) (each i c.alternative-item.result c.loop-alternative-test.true)) in
      let f = c.if-not-excludes.true in
      cc,
)

pub loop-alternative-preserved : goal.loop-alternative-preserved
loop-alternative-preserved c = λ k d l. ⊎_elim
    (λ before. c.loop-alternative.invariant k d before)
    (λ last.
    let h = c.args.self.now in
    let items = c.alternatives-alternative-items.result.now in
    let i = c.loop-alternative.alternative-index in
    let same = c.alternative-item.is ∙ get_or_default items i c.alternative-item.result d c.loop-alternative-test.true in
    let here = subst (λ n. Excludes h n) same (c.excludes.ensures.0 c.if-not-excludes.false) in
    subst (λ j. Excludes h (get_or items j d)) (omega (arith, l, last)) here)
    (cases_lt k c.loop-alternative.alternative-index)

pub returns : goal.returns
returns c = (
  λ t. subst (λ ns. All (λ n. Excludes c.args.self.now n) ns) c.alternatives-alternative-items.ensures
      (λ k d l. c.loop-alternative.invariant k d (omega (arith, l, c.loop-alternative-test.false))),
  λ all. refl,
)
