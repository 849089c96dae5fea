-- What an answer is of, its kind and its exit status, and what it says.
--
-- | word                            | meaning                                                                          |
-- |---------------------------------|----------------------------------------------------------------------------------|
-- | kind_of_judged, kind_of_finding, kind_of_fault | the kind of answer that each of them is                           |
-- | kind_of                         | the kind of an answer                                                            |
-- | what_status                     | the exit status of an answer                                                     |
-- | refused_line, fault_line_number | the number of the line at which a source or a trace is refused                   |
-- | first_line                      | the first line of an answer                                                      |
-- | waits_text, second_text         | the line that says whether actors can deadlock, where it is asked                |
-- | judged_line, shown_line         | the line that a report shows                                                     |
-- | place_text, AreJudgedLines, AreLinesOf | the lines that follow it                                                  |
-- | AreShownLinesOf                 | the lines that follow the one that a report shows                                |
-- | IsTextOf                        | the text of an answer, to the letter                                             |
-- | IsAnsweredFor                   | whether actors can deadlock is answered exactly where that is asked              |
-- | IsVerdictOn                     | the verdict on the application and the certificate that bytes mean               |
-- | IsUnsettled                     | the verdict is no, or a deadlock isn't excluded                                  |
-- | IsSearchOf                      | what a search found in the application that bytes mean                           |
-- | Settles, IsSettledIn            | the same, where it is a run into a breach, or all states                         |
-- | IsProofOf                       | the verdict by this certificate, or in its place what settles the matter         |
-- | HasFound                        | what was found, where something was                                              |
-- | CanRefuseSearch, CanRefuseProof | this fault can be the answer to the bytes and the number of workers              |
use Rattle.std.specs.Prelude.{◌≡◌, ◌⊎◌, ◌++◌, ◌==◌, ℕ, Bool, true, false, IsTrue, List, [], codes, Option, None, Some, IfSome, IsSome, Result, Ok, Err, String, if◌then◌else◌}
use Rattle.std.specs.declared.alloc.Global.{Global}
use Rattle.std.specs.Option.{is_some}
use Rattle.fr_program.specs.Program.{Program}
use Rattle.fr_reader.specs.Meaning.{Means as AppMeans}
use Rattle.fr_cert.specs.Meaning.{Means as CertMeans}
use Rattle.fr_judge.specs.declared.part.Verdict.{Verdict}
use Rattle.fr_judge.specs.declared.part.Verdict.TheVariants.{Yes as TellsYes, No as TellsNo}
use Rattle.fr_judge.specs.Told.{TellsVerdict}
use Rattle.fr_found.specs.declared.finding.Finding.{Finding}
use Rattle.fr_order.specs.declared.order.Order.{Order}
use Rattle.fr_order.specs.declared.order.Order.TheVariants.{Upwards, Cycle}
use Rattle.fr_order.specs.Order.{IsOrderOf}
use Rattle.fr_found.specs.declared.finding.Finding.TheVariants.{Breach as FoundBreach, Deadlock as FoundDeadlock, Safe, Free, Unknown}
use Rattle.fr_found.specs.Refutes.{IsFound, Suits}
use Rattle.fr_wording.specs.Lines.{lines_text}
use Rattle.fr_report.specs.Report.{verdict_text}
use Rattle.fr_report.specs.Refuted.{IsRunText, found_line}
use Rattle.fr_report.specs.Waits.{order_text}
use Rattle.fr_formats.specs.declared.answer.AnswerKind.{AnswerKind}
use Rattle.fr_formats.specs.declared.answer.AnswerKind.TheVariants.{Yes, No, MayDeadlock, Breach, Deadlock, NoBreach, StatesLeft, Refused, Machine}
use Rattle.fr_formats.specs.Answers.{status_of as kind_status}
use Rattle.fr_parallel.specs.Crew.{IsNoCrew}
use Rattle.fr_outcome.specs.declared.fault.CheckFault.{CheckFault}
use Rattle.fr_outcome.specs.declared.fault.CheckFault.TheVariants.{App, Cert, Source, Workers, Memory, Thread}
use Rattle.fr_outcome.specs.declared.answer.What.{What}
use Rattle.fr_outcome.specs.declared.answer.What.TheVariants.{Judged, Searched, Refused as NoAnswer}
use Rattle.fr_outcome.specs.Judged.{JudgedOf}
use Rattle.fr_outcome.specs.Checked.{IsAppRefused, IsCertRefused, fault_status, line_of}

-- yes exactly where the verdict is, but that a deadlock isn't excluded where there is a cycle of takes
abbrev pub kind_of_waits : Option Order → AnswerKind
kind_of_waits None = Yes
kind_of_waits (Some (Upwards mutexes)) = Yes
kind_of_waits (Some (Cycle edges)) = MayDeadlock

abbrev pub kind_of_judged : Verdict → Option Order → AnswerKind
kind_of_judged TellsYes waits = kind_of_waits waits
kind_of_judged (TellsNo p part) waits = No

-- a run into a breach or a deadlock, or none, with all states seen or more left
abbrev pub kind_of_finding : Finding → AnswerKind
kind_of_finding (FoundBreach r) = Breach
kind_of_finding (FoundDeadlock d) = Deadlock
kind_of_finding (Safe states) = NoBreach
kind_of_finding (Free states) = NoBreach
kind_of_finding (Unknown states left) = StatesLeft

-- refused where the fault is of what was given, and else the machine's
abbrev pub kind_of_fault : CheckFault → AnswerKind
kind_of_fault fault = if fault_status fault == 2 then Refused else Machine

-- the kind of an answer
abbrev pub kind_of : What → AnswerKind
kind_of (Judged j) = kind_of_judged j.verdict j.waits
kind_of (Searched s) = kind_of_finding s.found
kind_of (NoAnswer r) = kind_of_fault r.fault

-- the number of the line of a source or a trace at which it is refused, where it is refused at one
abbrev pub fault_line_number : CheckFault → Option ℕ
fault_line_number (Source text line) = line
fault_line_number fault = None

abbrev pub refused_line : What → Option ℕ
refused_line (NoAnswer r) = fault_line_number r.fault
refused_line what = None

-- the exit status of an answer is that of its kind
abbrev pub what_status : What → ℕ
what_status what = kind_status (kind_of what)

-- the lines that say where a fault is, where they are there
abbrev pub place_text : Option (List (String Global)) → List ℕ
place_text None = []
place_text (Some lines) = lines_text lines

-- the line that says whether actors can deadlock, with its newline; no text where that wasn't asked
abbrev pub waits_text : Program → Option Order → List ℕ
waits_text P None = []
waits_text P (Some order) = order_text P order ++ codes "\n"

-- what is always printed after the first line
abbrev pub second_text : What → List ℕ
second_text (Judged j) = waits_text j.app j.waits
second_text what = []

-- the line of a verdict, of what was found, or of a fault
abbrev pub first_line : What → List ℕ
first_line (Judged j) = verdict_text j.app j.verdict
first_line (Searched s) = found_line s.app s.found
first_line (NoAnswer r) = line_of r.fault

-- the line that a report shows: the first one, or in place of a yes that a deadlock isn't excluded
abbrev pub judged_line : Program → Verdict → Option Order → List ℕ
judged_line P TellsYes (Some (Cycle edges)) = order_text P (Cycle edges)
judged_line P verdict waits = verdict_text P verdict

abbrev pub shown_line : What → List ℕ
shown_line (Judged j) = judged_line j.app j.verdict j.waits
shown_line what = first_line what

-- the lines that follow a verdict: whether actors can deadlock, where that was asked, or what explains a no, where that was
abbrev pub AreJudgedLines : JudgedOf → List ℕ → Type 0
AreJudgedLines j more = j.why ≡ None → more ≡ waits_text j.app j.waits

-- the lines that follow: those of a verdict; the run that was found; or where the fault is
abbrev pub AreLinesOf : What → List ℕ → Type 0
AreLinesOf (Judged j) more = AreJudgedLines j more
AreLinesOf (Searched s) more = IsRunText (is_some s.explains) s.app s.found more
AreLinesOf (NoAnswer r) more = more ≡ place_text r.place

-- the lines that follow the one that a report shows: none where that one says that a deadlock isn't excluded, and else those that follow
-- the first one
abbrev pub AreLinesBy : AnswerKind → What → List ℕ → Type 0
AreLinesBy MayDeadlock what more = more ≡ []
AreLinesBy kind what more = AreLinesOf what more

abbrev pub AreShownLinesOf : What → List ℕ → Type 0
AreShownLinesOf what more = AreLinesBy (kind_of what) what more

-- the text of an answer: all its lines
abbrev pub IsTextOf : What → List ℕ → Type 0
IsTextOf what text = (more : List ℕ) × AreLinesOf what more × (text ≡ first_line what ++ (codes "\n" ++ more))

-- where it is asked whether actors can deadlock, and the verdict is yes, there is an answer; else there is none
abbrev pub IsAnsweredFor : Bool → Verdict → Option Order → Type 0
IsAnsweredFor false verdict waits = waits ≡ None
IsAnsweredFor true TellsYes waits = IsSome waits
IsAnsweredFor true (TellsNo p part) waits = waits ≡ None

-- the bytes mean this application and this certificate for it, this is the verdict on both, whether actors can deadlock is answered by the
-- certificate, where that is asked, and nothing explains a yes
abbrev pub IsVerdictOn : Bool → List ℕ → List ℕ → What → Type 0
IsVerdictOn asks app certificate (Judged j) =
    AppMeans app j.app × CertMeans j.app certificate j.certificate × TellsVerdict j.app j.certificate j.verdict
    × IfSome j.waits (IsOrderOf j.app j.certificate) × IsAnsweredFor asks j.verdict j.waits × (j.verdict ≡ TellsYes → j.why ≡ None)
IsVerdictOn asks app certificate what = ⊥

-- the bytes mean this application, and what was found of it is so: a run into a breach or a deadlock is one, and where no breach is
-- possible it is safe; where it is asked for deadlocks, none is possible then either
abbrev pub IsSearchOf : Bool → List ℕ → What → Type 0
IsSearchOf asks app (Searched s) = AppMeans app s.app × IsFound s.app s.found × Suits asks s.found
IsSearchOf asks app what = ⊥

-- what was found settles the matter: a run into a breach or a deadlock, or all states
abbrev pub Settles : Finding → Type 0
Settles (Unknown states left) = ⊥
Settles found = Unit {0}

-- the bytes mean this application, and what was found of it is so and settles the matter
abbrev pub IsSettledIn : Bool → List ℕ → What → Type 0
IsSettledIn asks app (Searched s) = AppMeans app s.app × IsFound s.app s.found × Suits asks s.found × Settles s.found
IsSettledIn asks app what = ⊥

-- it is the verdict yes, whether or not a deadlock is excluded
abbrev pub IsYes : What → Type 0
IsYes (Judged j) = j.verdict ≡ TellsYes
IsYes what = ⊥

-- the verdict is no, or it is yes and a deadlock isn't excluded
abbrev pub IsUnsettled : What → Type 0
IsUnsettled what = (kind_of what ≡ No) ⊎ (kind_of what ≡ MayDeadlock)

-- the verdict by this certificate; or in its place, where it is no or a deadlock isn't excluded and there is a search, what settles the
-- matter
abbrev pub IsProofOf : Bool → List ℕ → Bool → List ℕ → What → Type 0
IsProofOf asks app searches certificate what =
    IsVerdictOn asks app certificate what
    ⊎ ((other : What) × IsVerdictOn asks app certificate other × IsUnsettled other × IsTrue searches × IsSettledIn asks app what)

-- this is what was found, where something was
abbrev pub HasFound : {X E : Type 0} → Result (X × What) E → What → Type 0
HasFound (Ok r) what = what ≡ r.1
HasFound (Err e) what = ⊥

-- the fault is present in the application's bytes or in the number of workers, or the machine had no memory
abbrev pub CanRefuseSearch : List ℕ → ℕ → CheckFault → Type 0
CanRefuseSearch app workers (App f) = IsAppRefused app f
CanRefuseSearch app workers Workers = IsNoCrew workers
CanRefuseSearch app workers Memory = Unit {0}
CanRefuseSearch app workers fault = ⊥

-- the same, or the fault is present in a certificate for the application, or the machine had no thread
abbrev pub CanRefuseProof : List ℕ → ℕ → CheckFault → Type 0
CanRefuseProof app workers (Cert f) = (certificate : List ℕ) × IsCertRefused app certificate f
CanRefuseProof app workers Thread = Unit {0}
CanRefuseProof app workers fault = CanRefuseSearch app workers fault
