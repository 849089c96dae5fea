-- What a command promises, by what the files give that the request names.
--
-- | word                              | meaning                                                                        |
-- |-----------------------------------|--------------------------------------------------------------------------------|
-- | detail_in                         | how much is explained in this form                                             |
-- | IsCheckOf                         | the verdict on the application and the certificate in two files                |
-- | IsProofAt                         | the verdict on the application in a file by a certificate, or a run instead    |
-- | IsSearchAt                        | what a search found in the application in a file                               |
-- | IsAnswerBy, LineAnswer, IsLineAnswer | the answer to a line of a list                                              |
-- | IsLineText                        | what is printed of a line: the path, and the answer's lines                    |
-- | IsLinePrinted, IsLineAdded        | one line more is answered, and printed or added to a report                    |
-- | AreLinesPrinted, IsListAnswered   | the lines of a list, each answered and printed, in their order                 |
-- | AreRunWords                       | the words of a run that are asked for                                          |
-- | AreShown, IsListed, IsListing     | the points of the application in a file, with places in a source where that is asked |
-- | IsApplication, IsTranslated       | the text of the application that a source means was written, or is in a file   |
-- | IsAnswered                        | the exit status, and what was written, are those of the request                |
-- | IsSafeIn, IsSafeAt, AreSafe       | the application in a file is safe; each that a verdict is asked for on         |
-- | IsText                            | the answer is a text about one application                                     |
-- | PutsFound, PutsTranslated, PutsOutput | the file that is asked for was given what was found, or what a source means |
-- | PutsYes, IsProveDone              | a certificate with a yes was written, and the page of that answer              |
-- | IsCheckDone                       | the page of a verdict was written                                              |
-- | IsDone                            | the files that the request names were given what it asks for                   |
-- | IsKept, IsWritten                 | the files are as they were, but for a certificate with a yes; for what the request names |
use Rattle.std.specs.Prelude.{◌≡◌, ◌≤◌, ◌⊎◌, ◌++◌, ℕ, Bool, true, false, IsTrue, List, [], ◌∷◌, All, Option, None, Some, codes, fold, length, map, max, option_copied}
use Rattle.std.specs.List.{concat}
use Rattle.std.specs.Option.{is_some}
use Rattle.std.specs.Io.KnownBytes.{Appends}
use Rattle.fr_program.specs.Program.{Program}
use Rattle.fr_reader.specs.Meaning.{Means as AppMeans}
use Rattle.fr_text.specs.Texts.{IsJudged}
use Rattle.fr_judge.specs.declared.part.Verdict.TheVariants.{Yes}
use Rattle.fr_formats.specs.declared.answer.AnswerShown.{AnswerShown}
use Rattle.fr_formats.specs.Reports.{IsReport}
use Rattle.fr_list.specs.Means.{Entry, ListMeans}
use Rattle.fr_list.specs.Beside.{beside}
use Rattle.fr_wording.specs.Listing.{points_text}
use Rattle.fr_wording.specs.declared.sources.Sources.{Sources}
use Rattle.fr_request.specs.declared.detail.Detail.{Detail}
use Rattle.fr_request.specs.declared.detail.Detail.TheVariants.{Relevant}
use Rattle.fr_request.specs.declared.format.Format.{Format}
use Rattle.fr_request.specs.declared.request.CheckedFiles.{CheckedFiles as Named}
use Rattle.fr_request.specs.declared.request.CheckedFiles.TheVariants.{One, Listed}
use Rattle.fr_request.specs.declared.request.ProveRequest.{ProveRequest}
use Rattle.fr_request.specs.declared.request.Request.{Request}
use Rattle.fr_request.specs.declared.request.Request.TheVariants.{Check, Find, Prove, Points, Refute, Run, Translate, Follow}
use Rattle.fr_outcome.specs.declared.answer.What.{What}
use Rattle.fr_findings.specs.declared.found.Found.{Found}
use Rattle.fr_inputs.specs.Inputs.{Reading, AsApp, AsCertificate, AsList, AsSource}
use Rattle.fr_outcome.specs.Answers.{AreLinesOf, IsProofOf, IsSearchOf, IsVerdictOn, IsYes, first_line, second_text, what_status}
use Rattle.fr_outcome.specs.Checked.{IsFreeText, IsSafeText}
use Rattle.fr_printing.specs.Printing.{IsShown, IsPaged, PutsPage}
use Rattle.fr_shown.specs.Shows.{Shows}
use Rattle.fr_findings.specs.Found.{IsCertificateFor, IsFound, found_line, found_status}
use Rattle.fr_findings.specs.Ran.{IsRunText}
use Rattle.fr_outcome.specs.Heading.{heading}
use Rattle.fr_outcome.specs.Each.{Each, IsAdded}
use Rattle.fr_traces.specs.Traces.{IsFollowDone, IsFollowWritten, IsTracesAnswered}
use Rattle.fr_findings.specs.Words.{AreWords}

-- what is asked for, and where a machine reads the answer never less than what matters
abbrev pub detail_in : Option Format → Option Detail → Option Detail
detail_in None detail = detail
detail_in (Some format) None = Some Relevant
detail_in (Some format) (Some detail) = Some detail

-- the verdict on the application and the certificate in these two files
abbrev pub IsCheckOf : (Reading → List ℕ → List ℕ → Type 0) → Bool → List ℕ → List ℕ → What → Type 0
IsCheckOf reads asks app certificate what =
    (a c : List ℕ) × reads AsApp app a × reads AsCertificate certificate c × IsVerdictOn asks a c what

-- the verdict on the application in this file by this certificate; or in place of a no, where there is a search, a run into a breach or
-- that no state of any run breaches a rule
abbrev pub IsProofAt : (Reading → List ℕ → List ℕ → Type 0) → Bool → List ℕ → Bool → List ℕ → What → Type 0
IsProofAt reads asks app searches certificate what = (a : List ℕ) × reads AsApp app a × IsProofOf asks a searches certificate what

-- what a search found in the application in this file
abbrev pub IsSearchAt : (Reading → List ℕ → List ℕ → Type 0) → Bool → List ℕ → What → Type 0
IsSearchAt reads asks app what = (a : List ℕ) × reads AsApp app a × IsSearchOf asks a what

-- the verdict on the application in a file, by the certificate in another one that the list names, or by one that was worked out; or
-- what a search found instead
abbrev pub IsAnswerBy : (Reading → List ℕ → List ℕ → Type 0) → Bool → List ℕ → List ℕ → Option (List ℕ) → What → Type 0
IsAnswerBy reads asks list app (Some path) what = IsCheckOf reads asks app (beside list path) what
IsAnswerBy reads asks list app None what = (certificate : List ℕ) × IsProofAt reads asks app true certificate what

-- a line of a list with the answer to it
pub record LineAnswer : Type 0 where
  pub entry : Entry
  pub what : What

-- where it is a verdict, it is that on the files that the line names
pub record IsLineAnswer (reads : Reading → List ℕ → List ℕ → Type 0) (asks : Bool) (list : List ℕ) (line : LineAnswer) : Type 0 where
  pub by : what_status line.what ≤ 1 → IsAnswerBy reads asks list (beside list line.entry.application) line.entry.certificate line.what

-- the greatest of their exit statuses, 0 where there is no line
abbrev pub greater_status : ℕ → LineAnswer → ℕ
greater_status status line = max status (what_status line.what)

abbrev pub greatest_status : List LineAnswer → ℕ
greatest_status lines = fold greater_status 0 lines

-- what is printed of the answer to an application with this path: its first line, whether actors can deadlock, and the other lines where
-- they are asked for
abbrev pub AreMore : Bool → What → List ℕ → Type 0
AreMore true what more = AreLinesOf what more
AreMore false what more = more ≡ second_text what

abbrev pub IsLineText : Bool → List ℕ → What → List ℕ → Type 0
IsLineText explains path what text =
    (more : List ℕ) × AreMore explains what more × (text ≡ heading path ++ (first_line what ++ (codes "\n" ++ more)))

-- the lines' texts were written in their order after what the writer had, and nothing else; or a report that shows their answers
abbrev pub AreLinesPrinted : Option Format → Bool → List ℕ → List LineAnswer → Option (List ℕ) → Option (List ℕ) → Type 0
AreLinesPrinted None explains list lines old new =
    (texts : List (List ℕ)) × Each (λ line text. IsLineText explains (beside list line.entry.application) line.what text) lines texts
    × Appends old new (concat texts)
AreLinesPrinted (Some format) explains list lines old new =
    (shown : List AnswerShown) × (text : List ℕ) × Each (λ line s. Shows (beside list line.entry.application) line.what s) lines shown
    × IsReport format shown text × Appends old new text

-- the line with this entry is answered, with this exit status, and printed
abbrev pub IsLinePrinted : (Reading → List ℕ → List ℕ → Type 0) → Bool → Bool → List ℕ → Entry → Option (List ℕ) → Option (List ℕ) → ℕ → Type 0
IsLinePrinted reads asks explains list entry old new status =
    (what : What) × (text : List ℕ) × IsLineAnswer reads asks list (record { entry = entry; what = what }) × IsLineText explains (beside list entry.application) what text
    × Appends old new text × (status ≡ what_status what)

-- the line with this entry is answered, with this exit status, and the answer was added as reports show it
abbrev pub IsLineAdded : (Reading → List ℕ → List ℕ → Type 0) → Bool → List ℕ → Entry → List AnswerShown → List AnswerShown → ℕ → Type 0
IsLineAdded reads asks list entry old new status =
    (what : What) × IsLineAnswer reads asks list (record { entry = entry; what = what }) × IsAdded (Shows (beside list entry.application) what) old new × (status ≡ what_status what)

-- these lines are answered, this is the greatest exit status, and this is so of the answers
abbrev pub AreAnswered : (Reading → List ℕ → List ℕ → Type 0) → Bool → List ℕ → List Entry → ℕ → (List LineAnswer → Type 0) → Type 0
AreAnswered reads asks list entries status Is =
    (lines : List LineAnswer) × (map (λ line. line.entry) lines ≡ entries) × All (IsLineAnswer reads asks list) lines × (status ≡ greatest_status lines) × Is lines

-- the file has a list, of which each line is answered and printed
abbrev pub IsListAnswered : (Reading → List ℕ → List ℕ → Type 0) → Bool → List ℕ → Option Format → Bool → ℕ → Option (List ℕ) → Option (List ℕ) → Type 0
IsListAnswered reads asks list format explains status old new =
    (text : List ℕ) × reads AsList list text × (entries : List Entry) × ListMeans text entries
    × AreAnswered reads asks list entries status (λ lines. AreLinesPrinted format explains list lines old new)

-- no words where none are given, and else those of the text
abbrev pub AreRunWords : Option (List ℕ) → List ℕ → Type 0
AreRunWords None words = words ≡ []
AreRunWords (Some text) words = AreWords text words

-- the verdict on two files, or on each line of a list
abbrev pub IsCheckAnswered : (Reading → List ℕ → List ℕ → Type 0) → Bool → Named → Option Format → Bool → ℕ → Option (List ℕ) → Option (List ℕ) → Type 0
IsCheckAnswered reads asks (One app certificate) format explains status old new = IsShown (IsCheckOf reads asks app.now certificate.now) format app.now status old new
IsCheckAnswered reads asks (Listed list) format explains status old new = IsListAnswered reads asks list.now format explains status old new

-- places in a source are shown only where that is asked for
abbrev pub AreShown : Bool → Sources → Type 0
AreShown true sources = Unit {0}
AreShown false sources = sources.places.items ≡ []

-- the points of the application, each with its place in the source where that is asked for
abbrev pub IsListed : Bool → Program → List ℕ → Type 0
IsListed explains P text = (sources : Sources) × AreShown explains sources × (text ≡ points_text sources P)

-- the points of the application in a file were written
abbrev pub IsListing : (Reading → List ℕ → List ℕ → Type 0) → List ℕ → Bool → ℕ → Option (List ℕ) → Option (List ℕ) → Type 0
IsListing reads app explains status old new =
    (a text : List ℕ) × reads AsApp app a × (P : Program) × AppMeans a P × IsListed explains P text × (status ≡ 0) × Appends old new text

-- the text means an application
abbrev pub IsApplication : List ℕ → Type 0
IsApplication text = (P : Program) × AppMeans text P

-- the text of the application that a source means was written after what the writer had, where no file is named for it
abbrev pub IsTranslated : (Reading → List ℕ → List ℕ → Type 0) → List ℕ → Option (List ℕ) → Option (List ℕ) → Option (List ℕ) → Type 0
IsTranslated reads source None old new = (text : List ℕ) × reads AsSource source text × IsApplication text × Appends old new text
IsTranslated reads source (Some path) old new = (text : List ℕ) × reads AsSource source text × IsApplication text

-- the exit status, and what was written after what the writer had, are those of the request
abbrev pub IsAnswered : (Reading → List ℕ → List ℕ → Type 0) → Request → ℕ → Option (List ℕ) → Option (List ℕ) → Type 0
IsAnswered reads (Check asked) status old new = IsCheckAnswered reads asked.deadlock asked.files asked.format (is_some asked.detail) status old new
IsAnswered reads (Prove asked) status old new =
    IsShown (λ what. (certificate : List ℕ) × IsProofAt reads asked.deadlock asked.app.now asked.searches certificate what) asked.format asked.app.now status old new
IsAnswered reads (Refute asked) status old new = IsShown (IsSearchAt reads asked.deadlock asked.app.now) asked.format asked.app.now status old new
IsAnswered reads (Find asked) status old new =
    (a : List ℕ) × reads AsApp asked.app.now a × (found : Found) × IsFound a found × (status ≡ found_status found)
    × Appends old new (found_line found)
IsAnswered reads (Points app explains) status old new = IsListing reads app.now explains status old new
IsAnswered reads (Run asked) status old new =
    (a c words text : List ℕ) × reads AsApp asked.app.now a × reads AsCertificate asked.certificate.now c
    × AreRunWords (option_copied asked.words) words × IsRunText a c asked.polls words asked.detail status text × Appends old new text
IsAnswered reads (Translate asked) status old new =
    (status ≡ 0) × IsTranslated reads asked.source.now (option_copied asked.out) old new
IsAnswered reads (Follow asked) status old new = IsTracesAnswered reads asked status old new

-- the application in the file breaks no rule in any state of any run
abbrev pub IsSafeIn : (Reading → List ℕ → List ℕ → Type 0) → List ℕ → Type 0
IsSafeIn reads app = (a : List ℕ) × reads AsApp app a × IsSafeText a

-- so does it, and it is never deadlocked where that is asked
abbrev pub IsSafeAt : (Reading → List ℕ → List ℕ → Type 0) → Bool → List ℕ → Type 0
IsSafeAt reads asks app = (a : List ℕ) × reads AsApp app a × IsSafeText a × (IsTrue asks → IsFreeText a)

-- so does each application that these lines of a list name
abbrev pub AreEachSafe : (Reading → List ℕ → List ℕ → Type 0) → Bool → List ℕ → List Entry → Type 0
AreEachSafe reads asks list [] = Unit {0}
AreEachSafe reads asks list (e ∷ entries) = IsSafeAt reads asks (beside list e.application) × AreEachSafe reads asks list entries

-- so does each application that the list in the file names
abbrev pub AreListedSafe : (Reading → List ℕ → List ℕ → Type 0) → Bool → List ℕ → Type 0
AreListedSafe reads asks list =
    (text : List ℕ) × reads AsList list text × (entries : List Entry) × ListMeans text entries × AreEachSafe reads asks list entries

abbrev pub AreNamedSafe : (Reading → List ℕ → List ℕ → Type 0) → Bool → Named → Type 0
AreNamedSafe reads asks (One app certificate) = IsSafeAt reads asks app.now
AreNamedSafe reads asks (Listed list) = AreListedSafe reads asks list.now

-- so does each application on which the request asks for a verdict
abbrev pub AreSafe : (Reading → List ℕ → List ℕ → Type 0) → Request → Type 0
AreSafe reads (Check asked) = AreNamedSafe reads asked.deadlock asked.files
AreSafe reads (Prove asked) = IsSafeAt reads asked.deadlock asked.app.now
AreSafe reads (Refute asked) = IsSafeAt reads asked.deadlock asked.app.now
AreSafe reads (Run asked) = IsSafeIn reads asked.app.now
AreSafe reads (Find asked) = Unit {0}
AreSafe reads (Points app explains) = Unit {0}
AreSafe reads (Translate asked) = Unit {0}
AreSafe reads (Follow asked) = Unit {0}

-- what is asked for is a text for a person about one application, or about one trace
abbrev pub IsNamedText : Named → Option Format → Type 0
IsNamedText (One app certificate) format = format ≡ None
IsNamedText (Listed list) format = ⊥

abbrev pub IsText : Request → Type 0
IsText (Check asked) = IsNamedText asked.files asked.format
IsText (Prove asked) = asked.format ≡ None
IsText (Refute asked) = asked.format ≡ None
IsText (Find asked) = Unit {0}
IsText (Points app explains) = Unit {0}
IsText (Run asked) = Unit {0}
IsText (Translate asked) = Unit {0}
IsText (Follow asked) = (asked.format ≡ None) × (length asked.traces.now ≡ 1)

-- an answer of which a page may be asked for: the verdict on two files, which a list doesn't have
abbrev pub IsNamedAnswer : (Reading → List ℕ → List ℕ → Type 0) → Bool → Named → What → Type 0
IsNamedAnswer reads asks (One app certificate) what = IsCheckOf reads asks app.now certificate.now what
IsNamedAnswer reads asks (Listed list) what = ⊥

-- the files are as they were, but that the one at the path, if there is one, may have been given this text where the verdict is yes
abbrev pub IsGiven : {Z : Type 0} → (Z → List ℕ → List ℕ → Z → Type 0) → Option (List ℕ) → What → List ℕ → Z → Z → Type 0
IsGiven puts path what text old new = (new ≡ old) ⊎ ((p : List ℕ) × (path ≡ Some p) × IsYes what × puts old p text new)

-- the files are as they were, but that the one for the certificate may have been given one on which the verdict is yes
abbrev pub IsKept : {Z : Type 0} → (Reading → List ℕ → List ℕ → Type 0) → (Z → List ℕ → List ℕ → Z → Type 0) → List ℕ → Option (List ℕ) → Z → Z → Type 0
IsKept reads puts app None old new = new ≡ old
IsKept reads puts app (Some path) old new =
    (new ≡ old) ⊎ ((a text : List ℕ) × reads AsApp app a × ((P : Program) × IsJudged a text P Yes) × puts old path text new)

-- the file at the path was given a certificate that was found for the application in the other one
abbrev pub PutsFound : {Z : Type 0} → (Reading → List ℕ → List ℕ → Type 0) → (Z → List ℕ → List ℕ → Z → Type 0) → List ℕ → List ℕ → Z → Z → Type 0
PutsFound reads puts app path old new =
    (a text : List ℕ) × reads AsApp app a × ((P : Program) × AppMeans a P × IsCertificateFor P text) × puts old path text new

-- the file at the path was given the text of the application that a source means
abbrev pub PutsTranslated : {Z : Type 0} → (Reading → List ℕ → List ℕ → Type 0) → (Z → List ℕ → List ℕ → Z → Type 0) → List ℕ → List ℕ → Z → Z → Type 0
PutsTranslated reads puts source path old new = (text : List ℕ) × reads AsSource source text × IsApplication text × puts old path text new

-- the same of the path that is named; where none is, the files are as they were
abbrev pub PutsOutput : {Z : Type 0} → (Reading → List ℕ → List ℕ → Type 0) → (Z → List ℕ → List ℕ → Z → Type 0) → List ℕ → Option (List ℕ) → Z → Z → Type 0
PutsOutput reads puts source None old new = new ≡ old
PutsOutput reads puts source (Some path) old new = PutsTranslated reads puts source path old new

-- where the verdict is yes, the file at the path was given this text; where it isn't, or there is no path, the files are as they were
abbrev pub PutsYes : {Z : Type 0} → (Z → List ℕ → List ℕ → Z → Type 0) → Option (List ℕ) → What → List ℕ → Z → Z → Type 0
PutsYes puts None what text old new = new ≡ old
PutsYes puts (Some path) what text old new = (IsYes what × puts old path text new) ⊎ ((IsYes what → ⊥) × (new ≡ old))

-- the answer with this exit status is a proof, or a run in its place; the certificate of a yes was written to the file for it, and the
-- page of this answer to its own, where they are asked for
abbrev pub IsProveDone : {Z : Type 0} → (Reading → List ℕ → List ℕ → Type 0) → (Z → List ℕ → List ℕ → Z → Type 0) → ProveRequest → ℕ → Z → Z → Type 0
IsProveDone {Z} reads puts asked status old new =
    (what : What) × (certificate : List ℕ) × IsProofAt reads asked.deadlock asked.app.now asked.searches certificate what × (status ≡ what_status what)
    × (mid : Z) × PutsYes puts (option_copied asked.out) what certificate old mid
    × PutsPage puts (λ w. w ≡ what) status (option_copied asked.html) mid new

-- the page of the verdict on two files was written; for a list there is none
abbrev pub IsCheckDone : {Z : Type 0} → (Reading → List ℕ → List ℕ → Type 0) → (Z → List ℕ → List ℕ → Z → Type 0) → Bool → Named → Option (List ℕ) → ℕ → Z → Z → Type 0
IsCheckDone reads puts asks (One app certificate) html status old new = PutsPage puts (IsCheckOf reads asks app.now certificate.now) status html old new
IsCheckDone reads puts asks (Listed list) html status old new = Unit {0}

-- what an exit status of 0 or 1 promises of the files that are asked for: each was given what belongs there, the page that of an answer
-- with this status; for `find` and `translate` it is the status 0 that promises so
abbrev pub IsDone : {Z : Type 0} → (Reading → List ℕ → List ℕ → Type 0) → (Z → List ℕ → List ℕ → Z → Type 0) → Request → ℕ → Z → Z → Type 0
IsDone reads puts (Find asked) status old new = status ≡ 0 → PutsFound reads puts asked.app.now asked.out.now old new
IsDone reads puts (Translate asked) status old new = status ≡ 0 → PutsOutput reads puts asked.source.now (option_copied asked.out) old new
IsDone reads puts (Check asked) status old new = IsCheckDone reads puts asked.deadlock asked.files (option_copied asked.html) status old new
IsDone reads puts (Prove asked) status old new = IsProveDone reads puts asked status old new
IsDone reads puts (Refute asked) status old new = PutsPage puts (IsSearchAt reads asked.deadlock asked.app.now) status (option_copied asked.html) old new
IsDone reads puts (Points app explains) status old new = Unit {0}
IsDone reads puts (Run asked) status old new = Unit {0}
IsDone reads puts (Follow asked) status old new = IsFollowDone reads puts asked status old new

-- the files are as they were, but that those that the request names were given what it asks for
abbrev pub IsWritten : {Z : Type 0} → (Reading → List ℕ → List ℕ → Type 0) → (Z → List ℕ → List ℕ → Z → Type 0) → Request → Z → Z → Type 0
IsWritten reads puts (Check asked) old new = IsPaged puts (IsNamedAnswer reads asked.deadlock asked.files) (option_copied asked.html) old new
IsWritten {Z} reads puts (Prove asked) old new =
    (mid : Z) × IsKept reads puts asked.app.now (option_copied asked.out) old mid
    × IsPaged puts (λ what. (certificate : List ℕ) × IsProofAt reads asked.deadlock asked.app.now asked.searches certificate what) (option_copied asked.html) mid new
IsWritten reads puts (Refute asked) old new = IsPaged puts (IsSearchAt reads asked.deadlock asked.app.now) (option_copied asked.html) old new
IsWritten reads puts (Find asked) old new = (new ≡ old) ⊎ PutsFound reads puts asked.app.now asked.out.now old new
IsWritten reads puts (Points app explains) old new = new ≡ old
IsWritten reads puts (Run asked) old new = new ≡ old
IsWritten reads puts (Follow asked) old new = IsFollowWritten reads puts asked old new
IsWritten reads puts (Translate asked) old new = (new ≡ old) ⊎ PutsOutput reads puts asked.source.now (option_copied asked.out) old new
