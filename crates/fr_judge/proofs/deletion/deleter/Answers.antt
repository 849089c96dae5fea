use Rattle.std.proofs.Common.{◌≡◌, Some, subst, arith, ⊎_elim}
use Rattle.std.specs.Prelude.{slice_get}
use Rattle.std.proofs.lemmas.Option.{slice_get_within}
use Rattle.fr_judge.proofs.Terms.{cases_lt, points_of, point_number}
use Rattle.fr_judge.proofs.deletion.deleter.Goals as goal

pub loop-other-init : goal.loop-other-init
loop-other-init c = λ p here k l q e. absurd (omega (arith, l))

pub loop-other-preserved : goal.loop-other-preserved
loop-other-preserved c = λ p here k l q e.
    ⊎_elim (λ less. c.loop-other.invariant p here k less q e) (λ more.
    let last : k ≡ c.loop-other.other = omega (arith, l, more) in
    (c.near.ensures p q here (subst (λ j. slice_get (points_of c.args.app.now) j ≡ Some q) last e)).0 c.if-not-near.false) (cases_lt k c.loop-other.other)

pub returns-then-not-near : goal.returns-then-not-near
returns-then-not-near c = λ p here.
    let P = c.args.app.now in
    let numbered = c.recall_numbered.ensures in
    let q = c.point.result in
    let at = numbered.listed _ q c.point.ensures in (
      at.0,
      λ near.
          let t = (c.near.ensures p q here c.point.ensures).1 near in
          let f = c.if-not-near.true in cc,
      λ other there less. c.loop-other.invariant p here (point_number P other) (omega (arith, at.1, less)) other (numbered.at other there),
    )

pub returns : goal.returns
returns c = λ p here q is.
    let P = c.args.app.now in
    let e = c.recall_numbered.ensures.at q is in
    let below = slice_get_within (points_of P) (point_number P q) q e in
    c.loop-other.invariant p here (point_number P q) (omega (arith, below, c.points-other-end.ensures, c.loop-other-test.false)) q e is
