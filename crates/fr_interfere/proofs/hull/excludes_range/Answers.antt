use Rattle.std.proofs.Common.{◌≡◌, sym, ◌∙◌, subst, arith, refl, get_or, ⊎_elim}
use Rattle.fr_interfere.proofs.Terms.{cases_lt, get_or_default, IsApart}
use Rattle.fr_interfere.proofs.hull.excludes_range.Goals as goal

pub loop-entry-init : goal.loop-entry-init
loop-entry-init c = λ k e l is apart. absurd (omega (arith, l))

pub returns-then-is_apart : goal.returns-then-is_apart
returns-then-is_apart c = (
  λ t. (c.loop-entry.entry-index, c.entry-item.result, c.loop-entry-test.true, sym c.entry-item.is, c.is_apart.ensures.0 c.if-is_apart.true),
  λ some. refl,
)

pub loop-entry-preserved : goal.loop-entry-preserved
loop-entry-preserved c = λ k e l is apart. ⊎_elim
    (λ before. c.loop-entry.invariant k e before is apart)
    (λ last.
    let i = c.loop-entry.entry-index in
    let items = c.args.ranges.now in
    let here : k ≡ i = omega (arith, l, last) in
    let same : c.entry-item.result ≡ e
    = c.entry-item.is ∙ get_or_default items i c.entry-item.result e c.loop-entry-test.true ∙ subst (λ j. get_or items j e ≡ e) here is in
    let t = c.is_apart.ensures.1 (subst (λ x. IsApart x c.args.alternative.now) (sym same) apart) in
    let f = c.if-is_apart.false in
    cc)
    (cases_lt k c.loop-entry.entry-index)

pub returns : goal.returns
returns c = (λ t. cc, λ (k, e, l, is, apart). absurd (c.loop-entry.invariant k e (omega (arith, l, c.loop-entry-test.false)) is apart))
