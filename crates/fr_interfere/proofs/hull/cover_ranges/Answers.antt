use Rattle.std.proofs.Common.{◌<◌, length, refl, subst, arith, get_or}
use Rattle.fr_interfere.proofs.Terms.{IsPart, ends_of}
use Rattle.fr_interfere.proofs.HullLaws.{IsWiderRange, HasRange, same-range, join-ranges, grown-none, grown-more, IsLeastOf, has-one, has-other, wider-has-range}
use Rattle.fr_interfere.proofs.hull.cover_ranges.Goals as goal

pub loop-entry-init : goal.loop-entry-init
loop-entry-init c = grown-none IsWiderRange (HasRange c.args.alternative.now) same-range join-ranges _

pub loop-entry-preserved : goal.loop-entry-preserved
loop-entry-preserved c =
    let items = c.loop-entry.ranges in
    let i = c.loop-entry.entry-index in
    let e = get_or items i c.entry-item.result in
    let r = c.hull in
    let least : IsLeastOf e.1 c.range.result r.result = (r.ensures.lo, r.ensures.hi) in
    grown-more IsWiderRange (HasRange c.args.alternative.now) same-range join-ranges c.args.ranges.now items i c.loop-entry.invariant (omega (arith, c.loop-entry-test.true, c.loop-entry.auto.ranges))
    c.entry-item.result (e.0, r.result) (refl, has-one e.1 c.range.result r.result least)
    (subst (λ ends. IsPart ends (ends_of r.result)) c.range.ensures (has-other e.1 c.range.result r.result least))

pub returns-clause-covers : goal.returns-clause-covers
returns-clause-covers c = λ k d l.
    c.loop-entry.invariant.wanted k d (omega (arith, l, c.loop-entry.auto.ranges, c.loop-entry-test.false)) (omega (arith, l, c.loop-entry.auto.ranges))

pub returns-clause-keeps : goal.returns-clause-keeps
returns-clause-keeps c = λ m covers k d l.
    let old : k < length c.args.ranges.now = (omega (arith, l, c.loop-entry.auto.ranges)) in
    wider-has-range m (get_or c.args.ranges.now k d) (get_or c.loop-entry.ranges k d) (c.loop-entry.invariant.wider k d old) (covers k d old)
