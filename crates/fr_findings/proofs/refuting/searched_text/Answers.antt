-- A fault of the bytes is present in them, and what was found is kept as it is.
use Rattle.std.proofs.lemmas.Result.{err_from_is_err_and}
use Rattle.fr_outcome.specs.Answers.{CanRefuseSearch}
use Rattle.fr_findings.proofs.Refusals.{app-refused}
use Rattle.fr_findings.proofs.refuting.searched_text.Goals as goal

pub returns-in_err-app-clause-refused : goal.returns-in_err-app-clause-refused
returns-in_err-app-clause-refused g c =
    let p = err_from_is_err_and c.from_residual-in_err-app.result c.from_residual-in_err-app.ensures.1 in
    rw (p.1, p.2) (app-refused (CanRefuseSearch c.args.app.now c.args.ways.workers) c.in_err-app.field-0.0 tt (λ e. (e, c.in_err-app.ensures.err e)))

pub returns-clause-found : goal.returns-clause-found
returns-clause-found g c = rw c.in_ok-new.ensures (c.in_ok-app.ensures.ok, c.in_ok-found.ensures.found, c.in_ok-found.ensures.suits)
