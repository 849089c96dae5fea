use Rattle.std.proofs.Common.{◌≡◌, Some, sym, ap, ◌∙◌, arith}
use Rattle.fr_cert.proofs.Terms.{view}
use Rattle.fr_cert.proofs.SameLemmas.{is-unsigned}
use Rattle.fr_cert.proofs.same.is_unsigned.Goals as goal

pub returns-in-Some : goal.returns-in-Some
returns-in-Some c = λ yes.
    let same : c.in-Some.other ≡ c.args.whole = grind (arith, yes) in
    is-unsigned (view c.args.value.now) c.args.whole (sym c.in-Some.ensures ∙ ap (λ k. Some k) same)
