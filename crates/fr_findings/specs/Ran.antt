-- What a run answers and writes.
--
-- | word             | meaning                                                                            |
-- |------------------|------------------------------------------------------------------------------------|
-- | most_polls       | the most polls that a run may have                                                 |
-- | IsOutput         | what is written for a verdict: its report where it is no, else a true run's trace  |
-- | IsOutputFor      | the same, with the exit status, for an application and a certificate               |
-- | IsRunText        | the status and the text are those of the verdict on the bytes, with why it is no   |
-- | IsRunAnswer      | the status and what was written are those of the verdict on the bytes              |
-- | run_fault        | the fault of a command whose run gave no trace                                     |
-- | CanRefuseRun     | this fault can be the answer to the bytes and the number of polls                  |
use Rattle.std.specs.Prelude.{◌≡◌, ◌<◌, ◌++◌, ℕ, List, [], Option, None}
use Rattle.std.specs.Io.KnownBytes.{Appends}
use Rattle.fr_program.specs.Program.{Program}
use Rattle.fr_ends.specs.Certificate.{Certificate}
use Rattle.fr_judge.specs.Told.{TellsVerdict}
use Rattle.fr_text.specs.Texts.{IsJudged}
use Rattle.fr_judge.specs.declared.part.Verdict.{Verdict}
use Rattle.fr_judge.specs.declared.part.Verdict.TheVariants.{Yes, No}
use Rattle.fr_request.specs.declared.detail.Detail.{Detail}
use Rattle.fr_runner.specs.declared.fault.RunFault.{RunFault}
use Rattle.fr_runner.specs.declared.fault.RunFault.TheVariants.{Memory as NoMemory, Polls as TooManyPolls, Threads as NoThread, Spent, NoActor}
use Rattle.fr_runner.specs.declared.trace.Entry.{Entry}
use Rattle.fr_runner.specs.Trace.{IsRunOf}
use Rattle.fr_report.specs.Report.{report_text}
use Rattle.fr_report.specs.Trace.{trace_text}
use Rattle.fr_outcome.specs.declared.fault.CheckFault.{CheckFault}
use Rattle.fr_outcome.specs.declared.fault.CheckFault.TheVariants.{App, Cert, Polls, Memory, Thread, Write}
use Rattle.fr_outcome.specs.Checked.{status_of, HasVerdict, IsAppRefused, IsCertRefused}

-- the most polls that a run may have
abbrev pub most_polls : ℕ
most_polls = 1000000

-- what is written for a verdict on the application: its report where it is no; where it is yes, the text of a trace, which
-- is one of a run of so many polls with these words
abbrev pub IsOutput : Program → Verdict → ℕ → List ℕ → List ℕ → Type 0
IsOutput P Yes polls words text = (entries : List Entry) × IsRunOf P words polls entries × (text ≡ trace_text P entries)
IsOutput P (No p part) polls words text = text ≡ report_text P (No p part)

-- the verdict on the application and the certificate, its exit status, and what is written for it
abbrev pub IsOutputFor : Program → Certificate → ℕ → List ℕ → ℕ → List ℕ → Type 0
IsOutputFor P C polls words status text =
    (verdict : Verdict) × TellsVerdict P C verdict × (status ≡ status_of verdict) × IsOutput P verdict polls words text

-- the fault of a command whose run gave no trace; the last two are faults of single polls, which no run has
abbrev pub run_fault : RunFault → CheckFault
run_fault TooManyPolls = Polls
run_fault NoThread = Thread
run_fault NoMemory = Memory
run_fault Spent = Memory
run_fault NoActor = Memory

-- the bytes mean an application and a certificate; the status is that of the verdict on them, and the text is its output, with nothing
-- added to a yes, and nothing where nobody asks why it is no
abbrev pub IsRunText : List ℕ → List ℕ → ℕ → List ℕ → Option Detail → ℕ → List ℕ → Type 0
IsRunText app certificate polls words detail status text =
    (P : Program) × (verdict : Verdict) × (out more : List ℕ) × IsJudged app certificate P verdict × (status ≡ status_of verdict)
    × IsOutput P verdict polls words out × (text ≡ out ++ more) × (status ≡ 0 → more ≡ []) × (detail ≡ None → more ≡ [])

-- the bytes mean an application and a certificate; the status is that of the verdict on them, and its output was written
-- after what the writer had, and nothing else
abbrev pub IsRunAnswer : List ℕ → List ℕ → ℕ → List ℕ → ℕ → Option (List ℕ) → Option (List ℕ) → Type 0
IsRunAnswer app certificate polls words status old new =
    (P : Program) × (verdict : Verdict) × IsJudged app certificate P verdict × (status ≡ status_of verdict)
    × (text : List ℕ) × IsOutput P verdict polls words text × Appends old new text

-- the fault is present in the bytes or in the number of polls; or the machine had no memory or no thread; or the writer
-- failed, which hides no refusal: there is a verdict, and there are not too many polls
abbrev pub CanRefuseRun : List ℕ → List ℕ → ℕ → CheckFault → Type 0
CanRefuseRun app certificate polls (App f) = IsAppRefused app f
CanRefuseRun app certificate polls (Cert f) = IsCertRefused app certificate f
CanRefuseRun app certificate polls Polls = most_polls < polls
CanRefuseRun app certificate polls Memory = Unit {0}
CanRefuseRun app certificate polls Thread = Unit {0}
CanRefuseRun app certificate polls Write = HasVerdict app certificate × (most_polls < polls → ⊥)
CanRefuseRun app certificate polls fault = ⊥
