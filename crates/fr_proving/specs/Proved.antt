-- What is known of an application by a certificate that was worked out.
--
-- | word     | meaning                                                                        |
-- |----------|--------------------------------------------------------------------------------|
-- | IsTold   | a verdict is the one on the application and the certificate, and why goes with it |
-- | IsKnown  | the verdict, or what a search found in its place, where that settles the matter |
-- | IsWhatOf | the answer has this application, and what is known of it                        |
use Rattle.std.specs.Prelude.{◌≡◌, ◌⊎◌, Bool, IsTrue, Option, None, IfSome}
use Rattle.fr_program.specs.Program.{Program}
use Rattle.fr_ends.specs.Certificate.{Certificate}
use Rattle.fr_judge.specs.declared.part.Verdict.{Verdict}
use Rattle.fr_judge.specs.declared.part.Verdict.TheVariants.{Yes}
use Rattle.fr_judge.specs.Told.{Speaks, TellsVerdict}
use Rattle.fr_order.specs.declared.order.Order.{Order}
use Rattle.fr_order.specs.Order.{IsOrderOf}
use Rattle.fr_formats.specs.declared.answer.AnswerKind.TheVariants.{No, MayDeadlock}
use Rattle.fr_found.specs.Refutes.{IsFound, Suits}
use Rattle.fr_outcome.specs.declared.answer.What.{What}
use Rattle.fr_outcome.specs.declared.answer.What.TheVariants.{Judged, Searched}
use Rattle.fr_outcome.specs.Answers.{IsAnsweredFor, Settles, kind_of_judged}
use Rattle.fr_proving.specs.declared.proving.Known.{Known}
use Rattle.fr_proving.specs.declared.proving.Known.TheVariants.{Settled, Reached}

-- a verdict is the one on both and names only what the application has, nothing explains a yes, and an order is one of the certificate
abbrev pub IsTold : Program → Certificate → Known → Type 0
IsTold P C (Settled found explains) = Unit {0}
IsTold P C (Reached verdict why waits tried) =
    TellsVerdict P C verdict × Speaks P verdict × (verdict ≡ Yes → why ≡ None) × IfSome waits (IsOrderOf P C)

-- this is the verdict on both, and whether actors can deadlock is answered where that is asked
abbrev pub IsVerdictFor : Bool → Program → Certificate → Verdict → Option Order → Type 0
IsVerdictFor asks P C verdict waits = TellsVerdict P C verdict × IfSome waits (IsOrderOf P C) × IsAnsweredFor asks verdict waits

-- that verdict; or where it doesn't settle the matter and there is a search, what that found and settles it
abbrev pub IsKnown : Bool → Bool → Program → Certificate → Known → Type 0
IsKnown asks searches P C (Reached verdict why waits tried) = IsVerdictFor asks P C verdict waits
IsKnown asks searches P C (Settled found explains) =
    IsFound P found × Suits asks found × Settles found × IsTrue searches
    × ((verdict : Verdict) × (waits : Option Order) × IsVerdictFor asks P C verdict waits
    × ((kind_of_judged verdict waits ≡ No) ⊎ (kind_of_judged verdict waits ≡ MayDeadlock)))

-- the answer is of this application and this certificate, with what is known
abbrev pub IsWhatOf : Program → Certificate → Known → What → Type 0
IsWhatOf P C (Reached verdict why waits tried) (Judged j) =
    (j.app ≡ P) × (j.certificate ≡ C) × (j.verdict ≡ verdict) × (j.waits ≡ waits) × (j.why ≡ why)
IsWhatOf P C (Settled found explains) (Searched s) = (s.app ≡ P) × (s.found ≡ found)
IsWhatOf P C known what = ⊥
