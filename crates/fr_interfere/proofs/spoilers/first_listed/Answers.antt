-- The numbers rise, so the first of the points that disturbs is the one with the least number.
use Rattle.std.proofs.Common.{arith}
use Rattle.fr_interfere.proofs.Terms.{points_of, Undisturbed}
use Rattle.fr_effects.proofs.IndexLaws.{checked-more, checked-point, earlier}
use Rattle.fr_effects.proofs.Lists.{get-there}
use Rattle.fr_interfere.proofs.spoilers.first_listed.Goals as goal

pub loop-other-init : goal.loop-other-init
loop-other-init c = λ p here j l q e. absurd (omega (arith, l))

pub undisturbed-requires-clause-other : goal.undisturbed-requires-clause-other
undisturbed-requires-clause-other c = c.requires.below c.loop-other.other-index 0 c.loop-other-test.true

pub returns-then-not-undisturbed : goal.returns-then-not-undisturbed
returns-then-not-undisturbed c = λ p here.
    let P = c.args.app.now in
    let items = c.args.listed.now in
    let i = c.loop-other.other-index in
    let numbered = c.recall_numbered.ensures in
    let q = get-there (points_of P) _ (c.requires.below i 0 c.loop-other-test.true) in
    let at = numbered.listed _ q.0 q.1 in (
      q.0,
      at.0,
      at.1,
      λ u.
          let t = (c.undisturbed.ensures p q.0 here q.1).1 u in
          let f = c.if-not-undisturbed.true in cc,
      λ other there listed less. checked-point P (λ r. Undisturbed P c.args.notes.now p r) items numbered i (c.loop-other.invariant p here) other there listed
          (λ j long is. earlier items c.requires.rising j i long (omega (arith, is, less))),
    )

pub loop-other-preserved : goal.loop-other-preserved
loop-other-preserved c = λ p here.
    checked-more c.args.app.now (λ q. Undisturbed c.args.app.now c.args.notes.now p q) c.args.listed.now c.loop-other.other-index (c.loop-other.invariant p here)
    (λ q e. (c.undisturbed.ensures p q here e).0 c.if-not-undisturbed.false)

pub returns : goal.returns
returns c = λ p here q there listed.
    checked-point c.args.app.now (λ r. Undisturbed c.args.app.now c.args.notes.now p r) c.args.listed.now c.recall_numbered.ensures c.loop-other.other-index
    (c.loop-other.invariant p here) q there listed (λ j long is. omega (arith, long, c.loop-other-test.false))
