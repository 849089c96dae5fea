use Rattle.std.proofs.Common.{◌∙◌, sym, ap, subst, inl, inr}
use Rattle.fr_cert.proofs.Terms.{false≢true, err_from_is_err_and, EndFits, end_of}
use Rattle.fr_cert.specs.declared.fault.CertFault.TheVariants as fault
use Rattle.fr_cert.proofs.end.fitting_end.Goals as goal

pub returns-in_err-end-clause-err : goal.returns-in_err-end-clause-err
returns-in_err-end-clause-err c =
    let p = err_from_is_err_and c.from_residual.result c.from_residual.ensures.1 in
    rw (p.1, p.2) (λ named. inl (c.in_err-end.ensures.err named))

pub returns-else-fits-clause-err : goal.returns-else-fits-clause-err
returns-else-fits-clause-err c named =
    let e = end_of c.in_ok-end.end in
    inr (
      e,
      c.in_ok-end.ensures.ok,
      (λ fit. false≢true (sym c.if-fits.false ∙ c.fits.ensures.1 (subst (λ P. EndFits P e) (sym c.scope.view_is) fit))),
      ap (λ path. fault.Guard path) c.whole.ensures,
    )
