-- A fault of the certificate's text is present in it.
use Rattle.std.proofs.lemmas.Result.{err_from_is_err_and}
use Rattle.fr_outcome.specs.Answers.{CanRefuseProof}
use Rattle.fr_findings.proofs.Refusals.{cert-refused}
use Rattle.fr_proving.proofs.proving.certified.Goals as goal

pub returns-in_err-certificate-clause-refused : goal.returns-in_err-certificate-clause-refused
returns-in_err-certificate-clause-refused g c =
    let p = err_from_is_err_and c.from_residual-in_err-certificate.result c.from_residual-in_err-certificate.ensures.1 in
    rw (p.1, p.2) (cert-refused (CanRefuseProof c.args.bytes.now c.args.ways.workers) c.in_err-certificate.field-0.0 tt
    (λ e. (c.as_bytes.result.now, (e, (c.args.app.now, c.requires.means, c.in_err-certificate.ensures.err e)))))
