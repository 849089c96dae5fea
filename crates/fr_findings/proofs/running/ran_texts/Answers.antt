-- Each fault is handed on as it comes, and those of the texts are present in them.
use Rattle.std.proofs.lemmas.Result.{err_from_is_err_and}
use Rattle.fr_findings.specs.Ran.{CanRefuseRun}
use Rattle.fr_findings.proofs.Refusals.{text-refused}
use Rattle.fr_findings.proofs.running.ran_texts.Goals as goal

pub returns-in_err-app-clause-refused : goal.returns-in_err-app-clause-refused
returns-in_err-app-clause-refused g c =
    let p = err_from_is_err_and c.from_residual.result c.from_residual.ensures.1 in
    rw (p.1, p.2) (text-refused (CanRefuseRun c.args.app.now c.args.certificate.now c.args.polls) c.args.app.now c.args.certificate.now tt (λ f h. h) (λ f h. h) c.in_err-app.field-0.0 c.in_err-app.ensures.fault)

pub returns-in_err-status-clause-refused : goal.returns-in_err-status-clause-refused
returns-in_err-status-clause-refused g c =
    let p = err_from_is_err_and c.from_residual-in_err-status.result c.from_residual-in_err-status.ensures.1 in
    rw (p.1, p.2) (c.in_err-status.ensures.refused c.args.app.now c.args.certificate.now)

pub returns-clause-safe : goal.returns-clause-safe
returns-clause-safe g c e = (c.in_ok-app.app, c.in_ok-app.ensures.app, c.in_ok-status.ensures.safe e)
