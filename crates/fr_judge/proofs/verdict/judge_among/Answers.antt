-- The points before the one that the loop is at keep every part; so the first that fails is the least one, and where the
-- loop ends, all keep.
use Rattle.std.proofs.Common.{refl, arith}
use Rattle.fr_judge.proofs.Terms.{Yes, KeepsAll}
use Rattle.fr_judge.proofs.Points.{all-keep, first-failure, yes-safe}
use Rattle.fr_judge.proofs.Walks.{one-more}
use Rattle.fr_judge.proofs.verdict.judge_among.Goals as goal

pub loop-number-preserved : goal.loop-number-preserved
loop-number-preserved c =
    one-more c.args.app.now (λ p. KeepsAll c.args.app.now c.args.certificate.now p) c.loop-number.number c.loop-number.invariant c.in_default.ensures.first

pub returns-in-Some-clause-verdict : goal.returns-in-Some-clause-verdict
returns-in-Some-clause-verdict c =
    first-failure c.args.app.now c.args.certificate.now c.loop-number.number c.point.result c.in-Some.part c.loop-number.invariant c.point.ensures (c.in-Some.ensures.first c.point.result c.point.ensures)

pub returns-clause-verdict : goal.returns-clause-verdict
returns-clause-verdict c =
    (Yes, refl, all-keep c.args.app.now c.args.certificate.now (λ p is lt. c.loop-number.invariant p is (omega (arith, lt, c.points-number-end.ensures, c.loop-number-test.false))))

pub returns-clause-safe : goal.returns-clause-safe
returns-clause-safe c e =
    yes-safe c.args.app.now c.args.certificate.now c.recall_faultless.ensures c.requires.fits
    (Yes, refl, all-keep c.args.app.now c.args.certificate.now (λ p is lt. c.loop-number.invariant p is (omega (arith, lt, c.points-number-end.ensures, c.loop-number-test.false))))
