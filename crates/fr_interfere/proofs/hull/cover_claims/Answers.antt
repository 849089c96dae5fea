use Rattle.std.proofs.Common.{◌<◌, length, refl, sym, subst, arith, get_or}
use Rattle.fr_interfere.proofs.Terms.{ObjId, Claim, NotHeld, ClaimsMeet}
use Rattle.fr_interfere.proofs.HullLaws.{IsWiderClaim, HasClaim, same-claim, join-claims, grown-none, grown-more, wider-has-claim}
use Rattle.fr_interfere.proofs.hull.cover_claims.Goals as goal

pub loop-entry-init : goal.loop-entry-init
loop-entry-init c = grown-none IsWiderClaim (HasClaim c.args.alternative.now) same-claim join-claims _

pub loop-entry-preserved : goal.loop-entry-preserved
loop-entry-preserved c =
    let items = c.loop-entry.claims in
    let i = c.loop-entry.entry-index in
    let none : ObjId × Claim = (record { 0 = 0 }, NotHeld) in
    let e = get_or items i none in
    let r = c.common_claim in
    grown-more IsWiderClaim (HasClaim c.args.alternative.now) same-claim join-claims c.args.claims.now items i c.loop-entry.invariant (omega (arith, c.loop-entry-test.true, c.loop-entry.auto.claims))
    none (e.0, r.result) (refl, r.ensures.one)
    (λ k meets. r.ensures.other k (subst (λ x. ClaimsMeet x k) (sym c.claim.ensures) meets))

pub returns-clause-covers : goal.returns-clause-covers
returns-clause-covers c = λ k d l.
    c.loop-entry.invariant.wanted k d (omega (arith, l, c.loop-entry.auto.claims, c.loop-entry-test.false)) (omega (arith, l, c.loop-entry.auto.claims))

pub returns-clause-keeps : goal.returns-clause-keeps
returns-clause-keeps c = λ m covers k d l.
    let old : k < length c.args.claims.now = (omega (arith, l, c.loop-entry.auto.claims)) in
    wider-has-claim m (get_or c.args.claims.now k d) (get_or c.loop-entry.claims k d) (c.loop-entry.invariant.wider k d old) (covers k d old)
