use Rattle.std.proofs.Common.{inr}
use Rattle.fr_cert.proofs.Terms.{err_from_is_err_and}
use Rattle.fr_cert.proofs.reading.certificate_of.Goals as goal

pub returns-in_err-notes-clause-err : goal.returns-in_err-notes-clause-err
returns-in_err-notes-clause-err c =
    let p = err_from_is_err_and c.from_residual-in_err-notes.result c.from_residual-in_err-notes.ensures.1 in
    rw (p.1, p.2) (λ named. inr (inr (inr (c.in_ok-version.version, c.in_ok-version.ensures.ok, c.in_err-notes.ensures.err named))))
