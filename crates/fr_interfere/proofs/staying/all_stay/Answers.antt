-- A leaver was asked, and each other point stays whatever its note says.
use Rattle.std.proofs.Common.{length, refl, sym, subst, arith, ⊎_elim}
use Rattle.std.specs.Prelude.{Contains}
use Rattle.fr_interfere.proofs.Terms.{points_of, point_number, CanLeave, Lists, StaysAt}
use Rattle.fr_effects.proofs.IndexLaws.{checked-more, checked-point, in-list, numbers-below}
use Rattle.fr_effects.proofs.Lists.{get-there}
use Rattle.fr_interfere.proofs.SpoilerLaws.{unlisted-stays}
use Rattle.fr_interfere.proofs.staying.all_stay.Goals as goal

pub loop-number-init : goal.loop-number-init
loop-number-init c = λ j l q e. absurd (omega (arith, l))

pub stays_at-requires-clause-number : goal.stays_at-requires-clause-number
stays_at-requires-clause-number c =
    let P = c.args.app.now in
    let items = c.leavers-number-items.result.now in
    let lists = subst (Lists P (CanLeave P) (length (points_of P))) (sym c.leavers-number-items.ensures) c.requires.index.leavers in
    numbers-below P (CanLeave P) items lists c.loop-number.number-index 0 c.loop-number-test.true

pub loop-number-preserved : goal.loop-number-preserved
loop-number-preserved c =
    checked-more c.args.app.now (λ q. StaysAt c.args.app.now c.args.notes.now q) c.leavers-number-items.result.now c.loop-number.number-index c.loop-number.invariant
    (λ q e. (c.stays_at.ensures q e).0 c.if-not-stays_at.false)

pub returns-then-not-stays_at : goal.returns-then-not-stays_at
returns-then-not-stays_at c = (
  λ t. cc,
  λ all.
      let P = c.args.app.now in
      let items = c.leavers-number-items.result.now in
      let lists = subst (Lists P (CanLeave P) (length (points_of P))) (sym c.leavers-number-items.ensures) c.requires.index.leavers in
      let q = get-there (points_of P) _ (numbers-below P (CanLeave P) items lists c.loop-number.number-index 0 c.loop-number-test.true) in
      let at = (c.recall_numbered.ensures.listed _ q.0 q.1).0 in
      let t = (c.stays_at.ensures q.0 q.1).1 (all q.0 at) in
      let f = c.if-not-stays_at.true in
      cc,
)

pub returns : goal.returns
returns c = (
  λ t q at.
      let P = c.args.app.now in
      let items = c.leavers-number-items.result.now in
      let same = c.leavers-number-items.ensures in
      let numbered = c.recall_numbered.ensures in
      ⊎_elim
      (λ listed. checked-point P (λ r. StaysAt P c.args.notes.now r) items numbered c.loop-number.number-index c.loop-number.invariant q at
      (subst (λ xs. Contains xs (point_number P q)) (sym same) listed) (λ j long is. omega (arith, long, c.loop-number-test.false)))
      (λ not. unlisted-stays P c.recall_faultless.ensures c.args.notes.now numbered c.requires.fit c.args.index.now c.requires.index q at not)
      (in-list c.args.index.now.leavers (point_number P q)),
  λ all. refl,
)
