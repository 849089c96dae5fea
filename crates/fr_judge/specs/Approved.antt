-- An application that has passed, with its certificate.
use Rattle.fr_program.specs.Program.{Program}
use Rattle.fr_ends.specs.Certificate.{Certificate}
use Rattle.fr_ends.specs.Fits.{CertificateFits}
use Rattle.fr_judge.specs.Verdict.{IsCertified}

-- an application and a certificate for it
pub record Approved : Type 0 where
  pub app : Program
  pub certificate : Certificate

-- the certificate fits the application, and every part of it is kept at every point
pub record HasPassed (a : Approved) : Type 0 where
  pub fits : CertificateFits a.app a.certificate
  pub certified : IsCertified a.app a.certificate
