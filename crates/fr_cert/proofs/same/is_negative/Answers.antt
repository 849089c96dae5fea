use Rattle.std.proofs.Common.{◌≡◌, ℕ, Option, Some, None, is_some, false, true≢false, refl, sym, ap, ◌∙◌, arith}
use Rattle.fr_cert.proofs.Terms.{view}
use Rattle.fr_cert.proofs.SameLemmas.{is-negative}
use Rattle.fr_cert.proofs.same.is_negative.Goals as goal

no_number : (o : Option ℕ) → is_some o ≡ false → o ≡ None
no_number None e = refl
no_number (Some k) e = absurd (true≢false e)

pub returns-in-Some : goal.returns-in-Some
returns-in-Some c = λ yes.
    let same : c.in-Some.other ≡ c.args.whole = grind (arith, yes) in
    is-negative (view c.args.value.now) c.args.whole (no_number _ (sym c.is_u64.ensures ∙ c.if-is_u64.false)) (sym c.in-Some.ensures ∙ ap (λ k. Some k) same)
