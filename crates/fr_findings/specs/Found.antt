-- What is found for the bytes of an application, and what is refused.
--
-- | word           | meaning                                                                              |
-- |----------------|--------------------------------------------------------------------------------------|
-- | IsCertificateFor, IsWrittenFor | the text of a certificate that fits the application                  |
-- | IsFound        | the same of the application that the bytes mean, or nothing that is found for it     |
-- | CanRefuseFind  | this fault can be the answer to the bytes and the number of rounds                   |
-- | found_status   | the exit status for what is found                                                    |
-- | found_line     | the line for what is found, with its newline                                         |
use Rattle.std.specs.Prelude.{◌≡◌, ℕ, List, codes, string_bytes}
use Rattle.fr_program.specs.Program.{Program}
use Rattle.fr_reader.specs.Meaning.{Means}
use Rattle.fr_ends.specs.Certificate.{Certificate}
use Rattle.fr_ends.specs.Fits.{CertificateFits}
use Rattle.fr_cert.specs.Written.{cert_text}
use Rattle.fr_finder.specs.Found.{IsNoRounds}
use Rattle.fr_outcome.specs.declared.fault.CheckFault.{CheckFault}
use Rattle.fr_outcome.specs.declared.fault.CheckFault.TheVariants.{App, Rounds, Memory}
use Rattle.fr_outcome.specs.Checked.{IsAppRefused}
use Rattle.fr_findings.specs.declared.found.Found.{Found}
use Rattle.fr_findings.specs.declared.found.Found.TheVariants.{Text, NotFound}

-- a text is that of a certificate that fits the application
abbrev pub IsCertificateFor : Program → List ℕ → Type 0
IsCertificateFor P text = (C : Certificate) × CertificateFits P C × (text ≡ cert_text P C)

-- what is found is the text of such a certificate
abbrev pub IsWrittenFor : Program → Found → Type 0
IsWrittenFor P (Text text) = IsCertificateFor P (string_bytes text)
IsWrittenFor P NotFound = Unit {0}

-- the bytes mean an application, for which this is found
abbrev pub IsFound : List ℕ → Found → Type 0
IsFound app found = (P : Program) × Means app P × IsWrittenFor P found

-- the fault is present in the bytes or in the number of rounds, or the machine had no memory
abbrev pub CanRefuseFind : List ℕ → ℕ → CheckFault → Type 0
CanRefuseFind app rounds (App f) = IsAppRefused app f
CanRefuseFind app rounds Rounds = IsNoRounds rounds
CanRefuseFind app rounds Memory = Unit {0}
CanRefuseFind app rounds fault = ⊥

-- 0 where a certificate is found, and 1 where none is
abbrev pub found_status : Found → ℕ
found_status (Text text) = 0
found_status NotFound = 1

-- the line for standard output
abbrev pub found_line : Found → List ℕ
found_line (Text text) = codes "found\n"
found_line NotFound = codes "not found\n"
