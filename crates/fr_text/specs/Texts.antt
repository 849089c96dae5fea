-- What the bytes of an application and of a certificate come to: a verdict, or a fault.
--
-- | word             | meaning                                                                              |
-- |------------------|--------------------------------------------------------------------------------------|
-- | IsJudged         | the bytes mean this application and a certificate on which this is the verdict        |
-- | IsAnswerOne      | the bytes have one such answer at the most                                           |
-- | IsFaultOfTexts   | the fault is present in the bytes; the application's come before the certificate's    |
use Rattle.std.specs.Prelude.{◌≡◌, ℕ, List}
use Rattle.fr_program.specs.Program.{Program}
use Rattle.fr_reader.specs.Meaning.{Means as AppMeans}
use Rattle.fr_reader.specs.Faults.{Standing as AppStanding}
use Rattle.fr_reader.specs.Stands.{Stands as StandsInApp}
use Rattle.fr_ends.specs.Certificate.{Certificate}
use Rattle.fr_cert.specs.Meaning.{Means as CertMeans}
use Rattle.fr_cert.specs.Faults.{Standing as CertStanding}
use Rattle.fr_cert.specs.Present.{IsPresent as IsCertPresent}
use Rattle.fr_judge.specs.declared.part.Verdict.{Verdict as ToldVerdict}
use Rattle.fr_text.specs.declared.text.TextFault.{TextFault}
use Rattle.fr_text.specs.declared.text.TextFault.TheVariants.{Memory, App, Cert}
use Rattle.fr_judge.specs.Told.{TellsVerdict}

-- the first bytes mean the application, the second ones a certificate for it, and this is the verdict on both
abbrev pub IsJudged : List ℕ → List ℕ → Program → ToldVerdict → Type 0
IsJudged app certificate P told = AppMeans app P × (C : Certificate) × CertMeans P certificate C × TellsVerdict P C told

-- the bytes have one application and one verdict at the most
abbrev pub IsAnswerOne : Type 0
IsAnswerOne =
    (app certificate : List ℕ) (P Q : Program) (one other : ToldVerdict) → IsJudged app certificate P one →
    IsJudged app certificate Q other → (P ≡ Q) × (one ≡ other)

-- the fault is present in the application's bytes, or in the certificate's for the application that was read
abbrev pub IsFaultOfTexts : List ℕ → List ℕ → TextFault → Type 0
IsFaultOfTexts app certificate Memory = Unit {0}
IsFaultOfTexts app certificate (App f) = AppStanding (StandsInApp app) f
IsFaultOfTexts app certificate (Cert f) = (P : Program) × AppMeans app P × CertStanding (IsCertPresent P certificate) f
