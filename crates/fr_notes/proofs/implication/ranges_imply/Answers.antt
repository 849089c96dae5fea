-- A range of the code stands in the list of ends, as the pair of its ends.
use Rattle.std.proofs.Common.{get_or, map, below_more, subst, arith}
use Rattle.std.specs.Prelude.{pos}
use Rattle.fr_notes.proofs.Terms.{false≢true, refuted, IsPart, ends_of}
use Rattle.fr_notes.proofs.ImplicationLemmas.{ends-at}
use Rattle.fr_notes.proofs.implication.ranges_imply.Goals as goal

pub returns-then-not-is_part : goal.returns-then-not-is_part
returns-then-not-is_part c =
    let k = c.loop-variable.variable in
    let xs = c.args.ranges.now in
    let ys = c.args.others.now in
    let left = ends-at xs k c.index-ranges-variable.result c.loop-variable-test.true c.index-ranges-variable.is in
    let right = ends-at ys k c.index-others-variable.result (omega arith) c.index-others-variable.is in
    let first = get_or (map ends_of xs) k (pos 0, pos 0) in (
      λ f. absurd (false≢true f),
      λ h. absurd (refuted _ c.if-not-is_part.true c.is_part.ensures.1 (subst (λ u. IsPart u (ends_of c.index-others-variable.result)) left (subst (λ w. IsPart first w) right (h.1 k)))),
    )

pub loop-variable-preserved : goal.loop-variable-preserved
loop-variable-preserved c =
    let k = c.loop-variable.variable in
    let xs = c.args.ranges.now in
    let ys = c.args.others.now in
    let left = ends-at xs k c.index-ranges-variable.result c.loop-variable-test.true c.index-ranges-variable.is in
    let right = ends-at ys k c.index-others-variable.result (omega arith) c.index-others-variable.is in
    below_more (λ x. IsPart (get_or (map ends_of xs) x (pos 0, pos 0)) (get_or (map ends_of ys) x (pos 0, pos 0))) k c.loop-variable.invariant
    (rw (left, right) (c.is_part.ensures.0 c.if-not-is_part.false))
