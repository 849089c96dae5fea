-- The entry that isn't inside is one of the parts.
use Rattle.std.proofs.Common.{sym, subst, Any}
use Rattle.std.proofs.lemmas.Result.{err_from_is_err_and}
use Rattle.fr_notes.proofs.Terms.{IsNarrowing, HasFault}
use Rattle.fr_notes.proofs.checks.check_note.Goals as goal

pub returns-in_err-check_spans-clause-stands : goal.returns-in_err-check_spans-clause-stands
returns-in_err-check_spans-clause-stands c =
    let P = c.args.app.now in
    let p = err_from_is_err_and c.from_residual-in_err-check_spans.result c.from_residual-in_err-check_spans.ensures.1 in
    let h = c.in_err-check_spans.ensures.err in
    rw (p.1, p.2) (subst (HasFault P c.args.parts.now) (sym h.0) (subst (λ xs. Any (λ r. IsNarrowing P r → ⊥) xs) c.deref-2.ensures.value h.1))
