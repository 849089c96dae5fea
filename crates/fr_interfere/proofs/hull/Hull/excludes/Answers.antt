use Rattle.std.proofs.Common.{refl, inl, inr, subst}
use Rattle.std.specs.Prelude.{Any}
use Rattle.fr_interfere.proofs.Terms.{IsApart}
use Rattle.fr_interfere.proofs.HullLaws.{excludes-told}
use Rattle.fr_interfere.proofs.hull.Hull.excludes.Goals as goal

pub returns-then-excludes_entry : goal.returns-then-excludes_entry
returns-then-excludes_entry c = (λ t. record { why = inl (c.excludes_entry.ensures.0 c.if-excludes_entry.true) }, λ excludes. refl)

pub returns-then-excludes_range : goal.returns-then-excludes_range
returns-then-excludes_range c =
    let apart = subst (λ es. Any (λ e. IsApart e c.args.alternative.now) es) c.deref.ensures.value (c.excludes_range.ensures.0 c.if-excludes_range.true) in
    (λ t. record { why = inr (inl apart) }, λ excludes. refl)

pub returns : goal.returns
returns c =
    excludes-told c.args.self.now c.args.alternative.now c.deref.result.now c.deref-2.result.now c.deref.ensures.value c.deref-2.ensures.value
    c.excludes_entry.result c.excludes_range.result c.excludes_claim.result c.excludes_entry.ensures c.excludes_range.ensures c.excludes_claim.ensures
    c.if-excludes_entry.false c.if-excludes_range.false
