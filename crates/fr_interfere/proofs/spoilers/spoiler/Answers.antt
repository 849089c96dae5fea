use Rattle.std.proofs.Common.{◌≡◌, ◌<◌, Some, subst, arith, ⊎_elim}
use Rattle.std.specs.Prelude.{slice_get}
use Rattle.std.proofs.lemmas.Option.{slice_get_within}
use Rattle.fr_interfere.proofs.Terms.{cases_lt, points_of, point_number}
use Rattle.fr_effects.proofs.Lists.{get-there}
use Rattle.fr_interfere.proofs.spoilers.spoiler.Goals as goal

pub loop-other-init : goal.loop-other-init
loop-other-init c = λ p here k l q e. absurd (omega (arith, l))

pub loop-other-preserved : goal.loop-other-preserved
loop-other-preserved c = λ p here k l q e.
    ⊎_elim (λ less. c.loop-other.invariant p here k less q e) (λ more.
    let last : k ≡ c.loop-other.other = omega (arith, l, more) in
    (c.undisturbed.ensures p q here (subst (λ j. slice_get (points_of c.args.app.now) j ≡ Some q) last e)).0 c.if-not-undisturbed.false) (cases_lt k c.loop-other.other)

pub returns-then-not-undisturbed : goal.returns-then-not-undisturbed
returns-then-not-undisturbed c = λ p here.
    let P = c.args.app.now in
    let k = c.loop-other.other in
    let numbered = c.recall_numbered.ensures in
    let q = get-there (points_of P) k (subst (λ n. k < n) c.points-other-end.ensures c.loop-other-test.true) in
    let at = numbered.listed _ q.0 q.1 in (
      q.0,
      at.0,
      at.1,
      λ u.
          let t = (c.undisturbed.ensures p q.0 here q.1).1 u in
          let f = c.if-not-undisturbed.true in cc,
      λ other there less. c.loop-other.invariant p here (point_number P other) less other (numbered.at other there),
    )

pub returns : goal.returns
returns c = λ p here q there.
    let P = c.args.app.now in
    let e = c.recall_numbered.ensures.at q there in
    let below = slice_get_within (points_of P) (point_number P q) q e in
    c.loop-other.invariant p here (point_number P q) (omega (arith, below, c.points-other-end.ensures, c.loop-other-test.false)) q e
