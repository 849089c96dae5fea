-- The application has no fault, since its bytes mean it, and the turns of the certificate are distinct, since its bytes
-- mean it; so the two are certified.
use Rattle.std.proofs.Common.{ℕ, List}
use Rattle.fr_program.specs.Program.{Program}
use Rattle.fr_ends.specs.Certificate.{Certificate, AllHaveDistinctTurns}
use Rattle.fr_ends.specs.Fits.{EndFits}
use Rattle.fr_cert.specs.Keys.{names_in}
use Rattle.fr_cert.specs.Meaning.{IsEnd, Means}
use Rattle.fr_cert.specs.Shapes.{IsObject}
use Rattle.fr_cert.proofs.EntryLemmas.{each_both}
use Rattle.fr_text.specs.Theorem.{YesIsSafe}
use Rattle.fr_judge.proofs.Induction.{certified-safe}
use Rattle.fr_judge.proofs.Telling.{fitting-distinct}

meant-distinct : (P : Program) (bytes : List ℕ) (C : Certificate) → Means P bytes C → AllHaveDistinctTurns C.ends
meant-distinct P bytes C h =
    let ends = h.means.2.ends in
    fitting-distinct P C.ends (each_both (IsObject (IsEnd (names_in P))) (EndFits P) ends.2.0 C.ends ends.2.2.0).1

pub yes-is-safe : YesIsSafe
yes-is-safe app certificate P C h k kept =
    (certified-safe P C (record { faultless = h.faultless; turns = meant-distinct P certificate C k; kept = kept })).0
