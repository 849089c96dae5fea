-- The list rises, so the first of its points that is a danger is the one with the least number.
use Rattle.std.proofs.Common.{◌≡◌, Some, length, sym, subst, arith}
use Rattle.fr_judge.proofs.Terms.{points_of, points_are_numbered, made_of, Lists, checked-more, numbers-below, earlier, Near}
use Rattle.fr_judge.proofs.Deletes.{checked-near}
use Rattle.fr_judge.proofs.deletion.first_delete.Goals as goal

pub loop-other-init : goal.loop-other-init
loop-other-init c = λ p here j l q e. absurd (omega (arith, l))

pub near-requires-clause-other : goal.near-requires-clause-other
near-requires-clause-other c =
    let P = c.args.app.now in
    let o = c.args.object.0 in
    let lists = subst (Lists P (λ e. made_of e ≡ Some o) (length (points_of P))) (sym c.lives-other-items.ensures) (c.requires.index.lives o c.requires.object) in
    numbers-below P (λ e. made_of e ≡ Some o) c.lives-other-items.result.now lists c.loop-other.other-index 0 c.loop-other-test.true

pub point-requires : goal.point-requires
point-requires c =
    let P = c.args.app.now in
    let o = c.args.object.0 in
    let lists = subst (Lists P (λ e. made_of e ≡ Some o) (length (points_of P))) (sym c.lives-other-items.ensures) (c.requires.index.lives o c.requires.object) in
    numbers-below P (λ e. made_of e ≡ Some o) c.lives-other-items.result.now lists c.loop-other.other-index 0 c.loop-other-test.true

pub loop-other-preserved : goal.loop-other-preserved
loop-other-preserved c = λ p here.
    checked-more c.args.app.now (λ q. Near c.args.app.now c.args.notes.now p q) c.lives-other-items.result.now c.loop-other.other-index (c.loop-other.invariant p here)
    (λ q e. (c.near.ensures p q here e).0 c.if-not-near.false)

pub returns-then-not-near : goal.returns-then-not-near
returns-then-not-near c = λ p here used.
    let P = c.args.app.now in
    let o = c.args.object.0 in
    let items = c.lives-other-items.result.now in
    let lists = subst (Lists P (λ e. made_of e ≡ Some o) (length (points_of P))) (sym c.lives-other-items.ensures) (c.requires.index.lives o c.requires.object) in
    let i = c.loop-other.other-index in
    let q = c.point.result in
    let listed = (points_are_numbered P).listed _ q c.point.ensures in (
      listed.0,
      λ near.
          let t = (c.near.ensures p q here c.point.ensures).1 near in
          let f = c.if-not-near.true in cc,
      λ other is less. checked-near P c.args.notes.now p c.args.object used items lists i (c.loop-other.invariant p here) other is
          (λ j long number. earlier items lists.rising j i long (omega (arith, number, less, listed.1))),
    )

pub returns : goal.returns
returns c = λ p here used q is.
    let P = c.args.app.now in
    let o = c.args.object.0 in
    let items = c.lives-other-items.result.now in
    let lists = subst (Lists P (λ e. made_of e ≡ Some o) (length (points_of P))) (sym c.lives-other-items.ensures) (c.requires.index.lives o c.requires.object) in
    checked-near P c.args.notes.now p c.args.object used items lists c.loop-other.other-index (c.loop-other.invariant p here) q is
    (λ j long number. omega (arith, long, c.loop-other-test.false)) is
