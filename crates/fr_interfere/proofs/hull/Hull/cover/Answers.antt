use Rattle.std.proofs.Common.{sym, ◌∙◌, subst}
use Rattle.fr_interfere.proofs.Terms.{with_items_is, CoversClaims, CoversRanges}
use Rattle.fr_interfere.proofs.HullLaws.{covers-more}
use Rattle.fr_interfere.proofs.hull.Hull.cover.Goals as goal

pub returns-clause-covers : goal.returns-clause-covers
returns-clause-covers c =
    let m = c.args.alternative.now in
    let h = c.args.self.now in
    let claims = with_items_is h.claims c.cover_claims.new.claims (c.cover_claims.auto.claims ∙ c.deref_mut.ensures.len) in
    let ranges = with_items_is h.ranges c.cover_ranges.new.ranges (c.cover_ranges.auto.ranges ∙ c.deref_mut-2.ensures.len) in
    record {
      critical = λ is. (c.is_critical_too-self.ensures.0 is).1;
      claims = subst (λ es. CoversClaims es m) (sym claims) c.cover_claims.ensures.covers;
      ranges = subst (λ es. CoversRanges es m) (sym ranges) c.cover_ranges.ensures.covers;
      written = covers-more c.args.effect m c.written_by-written.result _ c.common_written-self.ensures.other c.written_by-written.ensures;
    }

pub returns-clause-keeps : goal.returns-clause-keeps
returns-clause-keeps c = λ e m covers.
    let h = c.args.self.now in
    let claims = with_items_is h.claims c.cover_claims.new.claims (c.cover_claims.auto.claims ∙ c.deref_mut.ensures.len) in
    let ranges = with_items_is h.ranges c.cover_ranges.new.ranges (c.cover_ranges.auto.ranges ∙ c.deref_mut-2.ensures.len) in
    record {
      critical = λ is. covers.critical (c.is_critical_too-self.ensures.0 is).0;
      claims = subst (λ es. CoversClaims es m) (sym claims) (c.cover_claims.ensures.keeps m (subst (λ es. CoversClaims es m) (sym c.deref_mut.ensures.value) covers.claims));
      ranges = subst (λ es. CoversRanges es m) (sym ranges) (c.cover_ranges.ensures.keeps m (subst (λ es. CoversRanges es m) (sym c.deref_mut-2.ensures.value) covers.ranges));
      written = covers-more e m c.args.self.now.written _ c.common_written-self.ensures.one covers.written;
    }
