-- An alternative fits where its claims and its ranges do: depths have a byte, and ranges have their ends in order.
use Rattle.std.proofs.Common.{subst, sym, arith}
use Rattle.fr_notes.proofs.Terms.{Alternative, AlternativeFits, ClaimsFit}
use Rattle.fr_notes.proofs.FitLemmas.{fits-from_parts, ranges-from_fits}
use Rattle.fr_notes.proofs.fits.alternative_fits.Goals as goal

pub returns-then-claims_fit : goal.returns-then-claims_fit
returns-then-claims_fit c =
    let P = c.args.app.now in
    let n = c.alternative.inside in
    let claims : ClaimsFit P n.claims.items = subst (ClaimsFit P) c.deref.ensures.value (c.claims_fit.ensures.0 c.if-claims_fit.true) in (
      λ t. subst (λ (m : Alternative). AlternativeFits P m) c.alternative.view_is (fits-from_parts P n (omega arith) (omega arith) claims (rw (← c.deref-then-claims_fit.ensures.value) (c.ranges_fit.ensures.0 t))),
      λ f. c.ranges_fit.ensures.1 (rw c.deref-then-claims_fit.ensures.value (ranges-from_fits P n (subst (λ (m : Alternative). AlternativeFits P m) (sym c.alternative.view_is) f))),
    )
