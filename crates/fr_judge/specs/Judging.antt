-- An application with a certificate that fits it, whose points are judged: for the public contracts of `Judging`.
use Rattle.std.specs.Prelude.{◌≡◌}
use Rattle.fr_program.specs.Program.{Program}
use Rattle.fr_ends.specs.Certificate.{Certificate}
use Rattle.fr_ends.specs.Fits.{CertificateFits}
use Rattle.fr_judge.specs.declared.judging.Judging.TheInside.{Inside}

-- an application with its certificate
pub record JudgingOf : Type 0 where
  pub app : Program
  pub certificate : Certificate

-- the one that it is in code
abbrev pub judging_of : Inside → JudgingOf
judging_of j = record { app = j.app.now; certificate = j.certificate.now }

-- the certificate fits the application, and what other actors do is looked up for these two
pub record IsJudging (j : Inside) : Type 0 where
  pub fits : CertificateFits j.app.now j.certificate.now
  pub app : j.others.app ≡ j.app.now
  pub notes : j.others.notes ≡ j.certificate.now.notes
