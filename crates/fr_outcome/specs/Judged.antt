-- A verdict, with the application and the certificate that it is on, and whether actors can deadlock where that is asked.
use Rattle.std.specs.Prelude.{◌≡◌, Option, None, IfSome}
use Rattle.fr_program.specs.Program.{Program}
use Rattle.fr_ends.specs.Certificate.{Certificate}
use Rattle.fr_ends.specs.Fits.{CertificateFits}
use Rattle.fr_judge.specs.declared.part.Verdict.{Verdict}
use Rattle.fr_judge.specs.declared.part.Verdict.TheVariants.{Yes}
use Rattle.fr_judge.specs.Told.{Speaks, TellsVerdict}
use Rattle.fr_order.specs.declared.order.Order.{Order}
use Rattle.fr_order.specs.Order.{IsOrderOf}
use Rattle.fr_wording.specs.declared.told.Explanation.{Explanation}

-- an application, a certificate for it, a verdict, what explains it, and an order of the mutexes or a cycle of takes
pub record JudgedOf : Type 0 where
  pub app : Program
  pub certificate : Certificate
  pub verdict : Verdict
  pub why : Option Explanation
  pub waits : Option Order

-- the certificate fits the application, the verdict is the one on both, it names only what the application has, and
-- nothing explains a yes; an order of the mutexes is one of the certificate, and so is a cycle
pub record IsVerdictOf (j : JudgedOf) : Type 0 where
  pub fits : CertificateFits j.app j.certificate
  pub verdict : TellsVerdict j.app j.certificate j.verdict
  pub speaks : Speaks j.app j.verdict
  pub why : j.verdict ≡ Yes → j.why ≡ None
  pub waits : IfSome j.waits (IsOrderOf j.app j.certificate)
