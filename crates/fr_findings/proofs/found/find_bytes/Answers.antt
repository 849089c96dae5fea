-- A fault of the bytes is present in them.
use Rattle.std.proofs.lemmas.Result.{err_from_is_err_and}
use Rattle.fr_findings.specs.Found.{CanRefuseFind}
use Rattle.fr_findings.proofs.Refusals.{app-refused}
use Rattle.fr_findings.proofs.found.find_bytes.Goals as goal

pub returns-in_err-app-clause-refused : goal.returns-in_err-app-clause-refused
returns-in_err-app-clause-refused g c =
    let p = err_from_is_err_and c.from_residual.result c.from_residual.ensures.1 in
    rw (p.1, p.2) (app-refused (CanRefuseFind c.args.app.now c.args.rounds) c.in_err-app.field-0.0 tt (λ e. (e, c.in_err-app.ensures.err e)))
