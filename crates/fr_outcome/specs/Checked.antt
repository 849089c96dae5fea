-- What a check answers and writes, and what a refusal's line shows.
--
-- | word                  | meaning                                                                       |
-- |-----------------------|-------------------------------------------------------------------------------|
-- | status_of             | the exit status of a verdict                                                  |
-- | fault_status          | the exit status of a fault                                                    |
-- | line_of                | the line of a fault, without its newline                                      |
-- | list_line             | the line of a list that is refused                                            |
-- | IsAnswer              | the status and what was written are those of the verdict on the bytes         |
-- | IsSafeText            | the bytes mean an application that is safe                                    |
-- | IsFreeText            | the bytes mean an application that is never deadlocked                        |
-- | HasVerdict            | there is a verdict on the bytes                                               |
-- | app_fault, cert_fault | the fault of a check that a refused text comes to; inner ones of memory are one |
-- | check_fault           | the fault of a check that bytes without a verdict come to                     |
-- | list_fault            | the fault of a command that a refused list comes to                           |
-- | IsAppRefused          | the application's bytes have this fault, which isn't want of memory           |
-- | IsCertRefused         | the certificate's bytes have, for the application that the other ones mean    |
-- | CanRefuse, IsRefused  | this fault can be the answer to the bytes and workers; one of status 2 can    |
use Rattle.std.specs.Prelude.{◌≡◌, ◌++◌, ℕ, List, Option, false, codes, decimal, if◌then◌else◌, string_bytes}
use Rattle.std.specs.Io.KnownBytes.{Appends}
use Rattle.fr_program.specs.Program.{Program}
use Rattle.fr_rules.specs.Run.{IsSafe}
use Rattle.fr_waits.specs.Waits.{HasNoDeadlock}
use Rattle.fr_list.specs.declared.listed.ListFault.{ListFault}
use Rattle.fr_list.specs.declared.listed.ListFault.TheVariants.{Memory as NoMemoryForList, TooLong, NotText, Words as TooManyWords, Empty}
use Rattle.fr_reader.specs.declared.fault.ReadFault.{ReadFault}
use Rattle.fr_reader.specs.FaultText.{fault_text}
use Rattle.fr_reader.specs.Meaning.{Means}
use Rattle.fr_reader.specs.Faults.{is_memory as app_is_memory}
use Rattle.fr_reader.specs.Stands.{Stands}
use Rattle.fr_cert.specs.declared.fault.CertFault.{CertFault}
use Rattle.fr_cert.specs.FaultText.{text_of}
use Rattle.fr_cert.specs.Faults.{is_memory as cert_is_memory}
use Rattle.fr_cert.specs.Present.{IsPresent}
use Rattle.fr_text.specs.Texts.{IsJudged}
use Rattle.fr_parallel.specs.declared.bytes.BytesFault.{BytesFault}
use Rattle.fr_parallel.specs.declared.bytes.BytesFault.TheVariants.{Par, App as AppRefused, Cert as CertRefused}
use Rattle.fr_parallel.specs.declared.fault.ParFault.TheVariants.{Memory as NoMemory, Workers as NoWorkers, Threads as NoThreads}
use Rattle.fr_parallel.specs.Crew.{IsNoCrew}
use Rattle.fr_judge.specs.declared.part.Verdict.{Verdict}
use Rattle.fr_judge.specs.declared.part.Verdict.TheVariants.{Yes, No}
use Rattle.fr_report.specs.Report.{report_text}
use Rattle.fr_outcome.specs.declared.fault.CheckFault.{CheckFault}
use Rattle.fr_outcome.specs.declared.fault.CheckFault.TheVariants.{App, Cert, List as NoList, Source, Words, Workers, Rounds, Polls, Out, Memory, Thread, File, Write}

-- 0 where the verdict is yes, and 1 where it is no
abbrev pub status_of : Verdict → ℕ
status_of Yes = 0
status_of (No p part) = 1

-- 2 where the input or the words are refused, and 3 where the machine failed
abbrev pub fault_status : CheckFault → ℕ
fault_status (App f) = 2
fault_status (Cert f) = 2
fault_status (NoList f) = 2
fault_status (Source text line) = 2
fault_status Words = 2
fault_status Workers = 2
fault_status Rounds = 2
fault_status Polls = 2
fault_status Out = 2
fault_status Memory = 3
fault_status Thread = 3
fault_status File = 3
fault_status Write = 3

-- the line of a list that is refused, without its newline
abbrev pub list_line : ListFault → List ℕ
list_line NoMemoryForList = codes "machine: memory"
list_line TooLong = codes "refused: list 1 TooLong"
list_line NotText = codes "refused: list 2 NotText"
list_line (TooManyWords line) = codes "refused: list 3 Words: line " ++ decimal line
list_line Empty = codes "refused: list 4 Empty"

-- the line for standard error, without its newline
abbrev pub line_of : CheckFault → List ℕ
line_of (App f) = codes "refused: app " ++ fault_text f
line_of (Cert f) = codes "refused: cert " ++ text_of f
line_of (NoList f) = list_line f
line_of (Source text line) = string_bytes text
line_of Words = codes "refused: words"
line_of Workers = codes "refused: workers"
line_of Rounds = codes "refused: rounds"
line_of Polls = codes "refused: polls"
line_of Out = codes "refused: out"
line_of Memory = codes "machine: memory"
line_of Thread = codes "machine: thread"
line_of File = codes "machine: file"
line_of Write = codes "machine: file"

-- the bytes mean an application and a certificate; the status is that of the verdict on them, and its report was
-- written after what the writer had, and nothing else
abbrev pub IsAnswer : List ℕ → List ℕ → ℕ → Option (List ℕ) → Option (List ℕ) → Type 0
IsAnswer app certificate status old new =
    (P : Program) × (verdict : Verdict) × IsJudged app certificate P verdict × (status ≡ status_of verdict) × Appends old new (report_text P verdict)

-- the bytes mean an application that breaks no rule in any state of any run
abbrev pub IsSafeText : List ℕ → Type 0
IsSafeText app = (P : Program) × Means app P × IsSafe P

-- the bytes mean an application of which no state of any run is deadlocked
abbrev pub IsFreeText : List ℕ → Type 0
IsFreeText app = (P : Program) × Means app P × HasNoDeadlock P

-- the bytes mean an application and a certificate, so that there is a verdict on them
abbrev pub HasVerdict : List ℕ → List ℕ → Type 0
HasVerdict app certificate = (P : Program) × (verdict : Verdict) × IsJudged app certificate P verdict

-- the fault of a check whose application is refused by this one: an inner fault of memory is `Memory`
abbrev pub app_fault : ReadFault → CheckFault
app_fault f = if app_is_memory f then Memory else App f

-- the fault of a check whose certificate is refused by this one: an inner fault of memory is `Memory`
abbrev pub cert_fault : CertFault → CheckFault
cert_fault f = if cert_is_memory f then Memory else Cert f

-- the fault of a check, where the bytes were given no verdict by this one: each inner fault of memory is `Memory`
abbrev pub check_fault : BytesFault → CheckFault
check_fault (Par NoMemory) = Memory
check_fault (Par NoWorkers) = Workers
check_fault (Par NoThreads) = Thread
check_fault (AppRefused f) = app_fault f
check_fault (CertRefused f) = cert_fault f

-- the fault of a command whose list is refused by this one: want of memory is `Memory`
abbrev pub list_fault : ListFault → CheckFault
list_fault NoMemoryForList = Memory
list_fault TooLong = NoList TooLong
list_fault NotText = NoList NotText
list_fault (TooManyWords line) = NoList (TooManyWords line)
list_fault Empty = NoList Empty

-- the application's bytes have this fault, which isn't want of memory
abbrev pub IsAppRefused : List ℕ → ReadFault → Type 0
IsAppRefused app f = (app_is_memory f ≡ false) × Stands app f

-- the certificate's bytes have this fault, which isn't want of memory, for the application that the other bytes mean
abbrev pub IsCertRefused : List ℕ → List ℕ → CertFault → Type 0
IsCertRefused app certificate f = (cert_is_memory f ≡ false) × ((P : Program) × Means app P × IsPresent P certificate f)

-- the fault is present in the bytes or in the number of workers; or the machine had no memory or no thread; or the writer
-- failed, which hides no refusal: the number of workers is good, and there is a verdict
abbrev pub CanRefuse : List ℕ → List ℕ → ℕ → CheckFault → Type 0
CanRefuse app certificate workers (App f) = IsAppRefused app f
CanRefuse app certificate workers (Cert f) = IsCertRefused app certificate f
CanRefuse app certificate workers Workers = IsNoCrew workers
CanRefuse app certificate workers Memory = Unit {0}
CanRefuse app certificate workers Thread = Unit {0}
CanRefuse app certificate workers Write = HasVerdict app certificate × (IsNoCrew workers → ⊥)
CanRefuse app certificate workers fault = ⊥

-- the bytes or the number of workers are refused: a fault of status 2 is present in them
abbrev pub IsRefused : List ℕ → List ℕ → ℕ → Type 0
IsRefused app certificate workers = (fault : CheckFault) × CanRefuse app certificate workers fault × (fault_status fault ≡ 2)
