-- What this project proves, in one sentence: if bytes mean an application and a certificate for it, and the verdict on the
-- two is yes, then the application is safe.
use Rattle.std.specs.Prelude.{ℕ, List}
use Rattle.fr_program.specs.Program.{Program}
use Rattle.fr_rules.specs.Run.{IsSafe}
use Rattle.fr_reader.specs.Meaning.{Means as AppMeans}
use Rattle.fr_ends.specs.Certificate.{Certificate}
use Rattle.fr_cert.specs.Meaning.{Means as CertMeans}
use Rattle.fr_judge.specs.Verdict.{Yes, IsVerdict}

-- the bytes mean an application and a certificate for it, and the verdict is yes: no state of any run of the application
-- breaches any of the twelve rules
abbrev pub YesIsSafe : Type 0
YesIsSafe =
    (app certificate : List ℕ) (P : Program) (C : Certificate) →
    AppMeans app P → CertMeans P certificate C → IsVerdict P C Yes → IsSafe P
