-- A range of the code stands in the list of ends, as the pair of its ends.
use Rattle.std.proofs.Common.{◌<◌, ◌∙◌, below_more, get_or, length, map, subst, sym}
use Rattle.std.specs.Prelude.{pos}
use Rattle.fr_notes.proofs.Terms.{false≢true, length-map, refuted, IsWithinDeclared, ends_of}
use Rattle.fr_notes.proofs.ImplicationLemmas.{ends-at}
use Rattle.fr_notes.proofs.fits.ranges_fit.Goals as goal

pub returns-then-not-is_narrowing : goal.returns-then-not-is_narrowing
returns-then-not-is_narrowing c =
    let P = c.args.app.now in
    let k = c.loop-variable.variable in
    let xs = c.args.ranges.now in
    let here = ends-at xs k c.index-ranges-variable.result c.loop-variable-test.true c.index-ranges-variable.is in (
      λ f. absurd (false≢true f),
      λ h.
          let within = subst (λ u. IsWithinDeclared P k u) here (h.1 k) in
          let there : k < length P.variables = subst (λ n. k < n) (sym (length-map xs ends_of) ∙ h.0) c.loop-variable-test.true in
          absurd (refuted _ c.if-not-is_narrowing.true c.is_narrowing.ensures.1 (there, within.0, within.1)),
    )

pub loop-variable-preserved : goal.loop-variable-preserved
loop-variable-preserved c =
    let k = c.loop-variable.variable in
    let xs = c.args.ranges.now in
    let here = ends-at xs k c.index-ranges-variable.result c.loop-variable-test.true c.index-ranges-variable.is in
    let narrows = c.is_narrowing.ensures.0 c.if-not-is_narrowing.false in
    below_more (λ x. IsWithinDeclared c.args.app.now x (get_or (map ends_of xs) x (pos 0, pos 0))) k c.loop-variable.invariant
    (subst (λ u. IsWithinDeclared c.args.app.now k u) (sym here) (narrows.1, narrows.2))
