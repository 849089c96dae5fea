-- What `follow` answers, by what the files give that it names.
--
-- | word               | meaning                                                                         |
-- |--------------------|---------------------------------------------------------------------------------|
-- | IsReadAs           | the application that the file is read as                                        |
-- | TraceAnswerAt, answered_at | a trace's file with what is answered of it                                 |
-- | IsTraceAnswer      | the kind, the line and the run are those of a trace for an application          |
-- | IsAnswerAt         | where it isn't refused, it is the answer to the trace in the file               |
-- | greatest_of        | the greatest of their exit statuses, 0 where there is none                      |
-- | is_several, text_at | what is printed of an answer: where several traces are named, after the path   |
-- | AreTraces          | these traces are answered, and this is so of the answers                        |
-- | ShowsTrace         | a report shows the answer to a trace: both files, its kind and its lines        |
-- | AreTracesPrinted   | the answers were written, in their order, or a report that shows them           |
-- | AreCovered         | what no run has shown was written, where that is asked                          |
-- | IsTracesAnswered   | all of that, for the application that is named                                  |
-- | IsTrailPage        | a page that begins with the heading of an answer to a trace, and its line       |
-- | PutsRun, PutsTrailPage, PutsAnswer | the run of an answer, its page, or both were written where they are asked for |
-- | PutsSome           | each of the two, or neither                                                     |
-- | IsFollowWritten    | the files are as they were, but for those of the answer to the one trace        |
-- | IsFollowDone       | the files of the answer to the one trace were written                           |
-- | PutsAnswerOf, PutsSomeOf | the same of an answer, where there is one                                 |
use Rattle.std.specs.Prelude.{◌≡◌, ◌≤◌, ◌⊎◌, ◌++◌, ◌==◌, ℕ, Bool, true, false, not, List, [], ◌∷◌, All, Option, None, Some, codes, fold, length, map, max, option_copied, option_map, string_bytes}
use Rattle.std.specs.List.{concat}
use Rattle.std.specs.Option.{is_some}
use Rattle.std.specs.Io.KnownBytes.{Appends}
use Rattle.fr_program.specs.Program.{Program}
use Rattle.fr_reader.specs.Meaning.{Means as AppMeans}
use Rattle.fr_request.specs.declared.format.Format.{Format}
use Rattle.fr_request.specs.declared.request.FollowRequest.{FollowRequest}
use Rattle.fr_formats.specs.declared.answer.AnswerKind.{AnswerKind}
use Rattle.fr_formats.specs.declared.answer.AnswerKind.TheVariants.{NotListed as NotListedKind}
use Rattle.fr_formats.specs.declared.answer.AnswerShown.{AnswerShown}
use Rattle.fr_formats.specs.Answers.{status_of as kind_status}
use Rattle.fr_formats.specs.Reports.{IsReport}
use Rattle.fr_wording.specs.Lines.{lines_text}
use Rattle.fr_instr.specs.AppNames.{names_in}
use Rattle.fr_trace.specs.Means.{TraceMeans, IsPresent, said_in}
use Rattle.fr_trace.specs.declared.no_trace.NotListed.{NotListed}
use Rattle.fr_trace.specs.declared.no_trace.NoTrace.TheVariants.{NotListed as IsNotListed}
use Rattle.fr_events.specs.declared.trace.Trace.{Trace}
use Rattle.fr_explained.specs.Follows.{IsFollowed}
use Rattle.fr_explained.specs.declared.followed.Followed.{Followed}
use Rattle.fr_trail.specs.Answered.{IsAsked, followed_end, followed_event, followed_head, followed_kind}
use Rattle.fr_trail.specs.Runs.{IsRunFor}
use Rattle.fr_trail.specs.declared.answer.TraceAnswer.{TraceAnswer}
use Rattle.fr_outcome.specs.Each.{Each}
use Rattle.fr_outcome.specs.Heading.{heading}
use Rattle.fr_inputs.specs.Inputs.{Reading, AsApp, AsTrace}
use Rattle.fr_page.specs.declared.page.Page.{Page}
use Rattle.fr_page.specs.Whole.{head_of}
use Rattle.fr_lanes.specs.Pages.{page_kind}

-- the application that the file is read as
abbrev pub IsReadAs : (Reading → List ℕ → List ℕ → Type 0) → List ℕ → Program → Type 0
IsReadAs reads path P = (a : List ℕ) × reads AsApp path a × AppMeans a P

-- a trace's file with what is answered of it: the kind, the line, what is below the line, and the lines of the run that was found
pub record TraceAnswerAt : Type 0 where
  pub path : List ℕ
  pub kind : AnswerKind
  pub line : List ℕ
  pub more : List ℕ
  pub run : Option (List ℕ)

-- the answer to the trace in this file
abbrev pub answered_at : List ℕ → TraceAnswer → TraceAnswerAt
answered_at path answer =
    record { path = path; kind = answer.kind; line = string_bytes answer.line; more = lines_text answer.why.items; run = option_map string_bytes answer.run }

-- the text means a trace, which may begin anywhere where that is asked, and which is followed so: kind, line and run are those of one way
-- to follow it; or it has something that the application doesn't list, which the line says
abbrev pub IsTraceAnswer : Bool → Bool → Bool → Program → List ℕ → AnswerKind → List ℕ → Option (List ℕ) → Type 0
IsTraceAnswer any anywhere writes P text kind line run =
    ((e : Trace) × TraceMeans (names_in P) anywhere text (said_in e) × (u : Trace) × IsAsked any e u × (f : Followed) × IsFollowed P u f
    × (kind ≡ followed_kind f) × (rest : List ℕ) × (line ≡ followed_head P u f ++ (followed_event u f ++ (rest ++ followed_end f)))
    × IsRunFor writes P f run)
    ⊎ ((unlisted : NotListed) × IsPresent (names_in P) anywhere text (IsNotListed unlisted)
    × (kind ≡ NotListedKind) × (rest : List ℕ) × (line ≡ codes "not listed: " ++ rest) × (run ≡ None))

-- where it isn't refused, it is the answer to the trace in the file, and else it has no run
pub record IsAnswerAt (reads : Reading → List ℕ → List ℕ → Type 0) (asked : FollowRequest) (P : Program) (t : TraceAnswerAt) : Type 0 where
  pub by : kind_status t.kind ≤ 1 → (bytes : List ℕ) × reads AsTrace t.path bytes
      × IsTraceAnswer asked.any_times asked.from_anywhere (is_some asked.run) P bytes t.kind t.line t.run
  pub none : 2 ≤ kind_status t.kind → t.run ≡ None

-- the greatest of their exit statuses, 0 where there is none
abbrev pub greater_of : ℕ → TraceAnswerAt → ℕ
greater_of status t = max status (kind_status t.kind)

abbrev pub greatest_of : List TraceAnswerAt → ℕ
greatest_of answers = fold greater_of 0 answers

-- so many traces aren't one alone
abbrev pub is_several : ℕ → Bool
is_several count = not (count == 1)

-- what is printed of an answer: where several traces are named, after the path
abbrev pub text_of : TraceAnswerAt → List ℕ
text_of t = t.line ++ (codes "\n" ++ t.more)

abbrev pub text_at : Bool → TraceAnswerAt → List ℕ
text_at true t = heading t.path ++ text_of t
text_at false t = text_of t

-- each of these traces is answered, this is the greatest exit status, and this is so of the answers, which have the order of the traces
abbrev pub AreTraces : (Reading → List ℕ → List ℕ → Type 0) → FollowRequest → Program → List (List ℕ) → ℕ → (List TraceAnswerAt → Type 0) → Type 0
AreTraces reads asked P paths status Is =
    (answers : List TraceAnswerAt) × (map (λ t. t.path) answers ≡ paths) × All (IsAnswerAt reads asked P) answers
    × (status ≡ greatest_of answers) × Is answers

-- what a report shows of an answer for the application in this file: both files, the kind of the answer, its line, and those below it
pub record ShowsTrace (app : List ℕ) (t : TraceAnswerAt) (shown : AnswerShown) : Type 0 where
  pub application : string_bytes shown.application ≡ app
  pub trace : option_map (λ trace. string_bytes trace.file) shown.trace ≡ Some t.path
  pub kind : shown.answer ≡ t.kind
  pub line : string_bytes shown.report ≡ t.line
  pub lines : lines_text shown.lines.items ≡ t.more

-- the answers were written after what the writer had, and nothing else; or a report that shows them was
abbrev pub AreTracesPrinted : Option Format → List ℕ → Bool → Option (List ℕ) → Option (List ℕ) → List TraceAnswerAt → Type 0
AreTracesPrinted None app several old new answers = Appends old new (concat (map (text_at several) answers))
AreTracesPrinted (Some format) app several old new answers =
    (shown : List AnswerShown) × (text : List ℕ) × Each (ShowsTrace app) answers shown × IsReport format shown text × Appends old new text

-- what no run has shown was written, where that is asked and no report is, and else nothing
abbrev pub AreCovered : Bool → Option Format → Option (List ℕ) → Option (List ℕ) → Type 0
AreCovered true None old new = (more : List ℕ) × Appends old new more
AreCovered true (Some format) old new = new ≡ old
AreCovered false format old new = new ≡ old

-- each trace that is named is answered for the application that is named, and after the answers what no run has shown, where that is asked
abbrev pub IsTracesAnswered : (Reading → List ℕ → List ℕ → Type 0) → FollowRequest → ℕ → Option (List ℕ) → Option (List ℕ) → Type 0
IsTracesAnswered reads asked status old new =
    (P : Program) × IsReadAs reads asked.app.now P × (mid : Option (List ℕ))
    × AreTraces reads asked P (map (λ s. s.now) asked.traces.now) status
    (AreTracesPrinted asked.format asked.app.now (is_several (length asked.traces.now)) old mid)
    × AreCovered asked.covers asked.format mid new

-- the text begins with the heading of an answer of this kind, and with its line
abbrev pub IsTrailPage : AnswerKind → List ℕ → List ℕ → Type 0
IsTrailPage kind line text =
    (page : Page) × (page.kind ≡ page_kind kind) × (string_bytes page.answer ≡ line) × (rest : List ℕ) × (text ≡ head_of page ++ rest)

-- these lines of a run were written to the file at the path; where there is no path, or no run, the files are as they were
abbrev pub PutsRun : {Z : Type 0} → (Z → List ℕ → List ℕ → Z → Type 0) → Option (List ℕ) → Option (List ℕ) → Z → Z → Type 0
PutsRun puts None run old new = new ≡ old
PutsRun puts (Some path) None old new = new ≡ old
PutsRun puts (Some path) (Some text) old new = puts old path text new

-- so was the page of an answer of this kind with this line
abbrev pub PutsTrailPage : {Z : Type 0} → (Z → List ℕ → List ℕ → Z → Type 0) → Option (List ℕ) → AnswerKind → List ℕ → Z → Z → Type 0
PutsTrailPage puts None kind line old new = new ≡ old
PutsTrailPage puts (Some path) kind line old new = (text : List ℕ) × IsTrailPage kind line text × puts old path text new

-- both were, to the files that are asked for
abbrev pub PutsAnswer : {Z : Type 0} → (Z → List ℕ → List ℕ → Z → Type 0) → FollowRequest → AnswerKind → List ℕ → Option (List ℕ) → Z → Z → Type 0
PutsAnswer {Z} puts asked kind line run old new =
    (mid : Z) × PutsRun puts (option_copied asked.run) run old mid × PutsTrailPage puts (option_copied asked.html) kind line mid new

-- each of the two was, or wasn't
abbrev pub PutsSome : {Z : Type 0} → (Z → List ℕ → List ℕ → Z → Type 0) → FollowRequest → AnswerKind → List ℕ → Option (List ℕ) → Z → Z → Type 0
PutsSome {Z} puts asked kind line run old new =
    (mid : Z) × ((mid ≡ old) ⊎ PutsRun puts (option_copied asked.run) run old mid)
    × ((new ≡ mid) ⊎ PutsTrailPage puts (option_copied asked.html) kind line mid new)

-- the files are as they were, but that those for the run and the page may have been given those of the answer to the one trace
abbrev pub IsFollowWritten : {Z : Type 0} → (Reading → List ℕ → List ℕ → Type 0) → (Z → List ℕ → List ℕ → Z → Type 0) → FollowRequest → Z → Z → Type 0
IsFollowWritten reads puts asked old new =
    (new ≡ old) ⊎ ((P : Program) × IsReadAs reads asked.app.now P × (t : TraceAnswerAt) × (map (λ s. s.now) asked.traces.now ≡ t.path ∷ [])
    × IsAnswerAt reads asked P t × PutsSome puts asked t.kind t.line t.run old new)

-- where one trace is named, this is the exit status of the answer to it, and its run and its page were written to the files for them
abbrev pub IsFollowDone : {Z : Type 0} → (Reading → List ℕ → List ℕ → Type 0) → (Z → List ℕ → List ℕ → Z → Type 0) → FollowRequest → ℕ → Z → Z → Type 0
IsFollowDone reads puts asked status old new =
    is_several (length asked.traces.now) ≡ false → (P : Program) × IsReadAs reads asked.app.now P × (t : TraceAnswerAt)
    × (map (λ s. s.now) asked.traces.now ≡ t.path ∷ []) × IsAnswerAt reads asked P t × (status ≡ kind_status t.kind)
    × PutsAnswer puts asked t.kind t.line t.run old new

-- For private clauses: the same of an answer, where there is one
abbrev pub PutsAnswerOf : {Z : Type 0} → (Z → List ℕ → List ℕ → Z → Type 0) → FollowRequest → Option TraceAnswer → Z → Z → Type 0
PutsAnswerOf puts asked None old new = new ≡ old
PutsAnswerOf puts asked (Some answer) old new = PutsAnswer puts asked answer.kind (string_bytes answer.line) (option_map string_bytes answer.run) old new

abbrev pub PutsSomeOf : {Z : Type 0} → (Z → List ℕ → List ℕ → Z → Type 0) → FollowRequest → Option TraceAnswer → Z → Z → Type 0
PutsSomeOf puts asked None old new = new ≡ old
PutsSomeOf puts asked (Some answer) old new = PutsSome puts asked answer.kind (string_bytes answer.line) (option_map string_bytes answer.run) old new
