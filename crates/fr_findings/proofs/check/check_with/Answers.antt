use Rattle.std.proofs.Common.{sym, ap, ◌∙◌, Err}
use Rattle.std.proofs.lemmas.Result.{err_from_is_err_and}
use Rattle.fr_findings.proofs.Refusals.{refused-by, zero-yes}
use Rattle.fr_findings.proofs.check.check_with.Goals as goal

pub returns-in_err-judged-clause-refused : goal.returns-in_err-judged-clause-refused
returns-in_err-judged-clause-refused g c =
    let p = err_from_is_err_and c.from_residual.result c.from_residual.ensures.1 in
    rw (p.1, p.2) (refused-by c.args.app.now c.args.certificate.now c.args.workers c.in_err-judged.field-0.0 c.in_err-judged.ensures.fault
    (λ e. c.in_err-judged.ensures.workers.0 (ap Err e)))

pub returns-in-Ok-clause-safe : goal.returns-in-Ok-clause-safe
returns-in-Ok-clause-safe g c e =
    (c.in_ok-judged.judged.app, c.in_ok-judged.ensures.judged.0, c.in_ok-judged.ensures.safe (zero-yes c.in_ok-judged.judged.verdict (sym c.status_of.ensures ∙ e)))

pub returns-clause-refused : goal.returns-clause-refused
returns-clause-refused g c =
    ((c.in_ok-judged.judged.app, c.in_ok-judged.judged.verdict, c.in_ok-judged.ensures.judged), λ none. let e = c.in_ok-judged.ensures.workers.1 none in cc)
