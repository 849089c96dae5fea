-- What is printed of an answer, and which page is written.
--
-- | word          | meaning                                                                                                  |
-- |---------------|----------------------------------------------------------------------------------------------------------|
-- | IsTextPrinted | an answer's text was written                                                                             |
-- | IsPrinted     | an answer was written: its text, or a report that shows it                                               |
-- | IsShown       | such an answer has this exit status, and was printed                                                     |
-- | PutsPage      | the page of an answer with this exit status was written to the file that is named for it                 |
-- | IsPaged       | the files are as they were, or that was                                                                  |
use Rattle.std.specs.Prelude.{◌≡◌, ◌≤◌, ◌⊎◌, ℕ, List, [], ◌∷◌, Option, None, Some}
use Rattle.std.specs.Io.KnownBytes.{Appends}
use Rattle.fr_formats.specs.declared.answer.AnswerShown.{AnswerShown}
use Rattle.fr_formats.specs.Reports.{IsReport}
use Rattle.fr_request.specs.declared.format.Format.{Format}
use Rattle.fr_outcome.specs.declared.answer.What.{What}
use Rattle.fr_outcome.specs.Answers.{IsTextOf, what_status}
use Rattle.fr_printing.specs.Pages.{IsPageOf}
use Rattle.fr_shown.specs.Shows.{Shows}

-- the answer's text was written after what the writer had, and nothing else, where it isn't refused
abbrev pub IsTextPrinted : What → Option (List ℕ) → Option (List ℕ) → Type 0
IsTextPrinted what old new = what_status what ≤ 1 → (text : List ℕ) × IsTextOf what text × Appends old new text

-- so it was; in a form that machines read a report that shows the answer for the application in this file was
abbrev pub IsPrinted : Option Format → List ℕ → What → Option (List ℕ) → Option (List ℕ) → Type 0
IsPrinted None path what old new = IsTextPrinted what old new
IsPrinted (Some format) path what old new =
    (shown : AnswerShown) × (text : List ℕ) × Shows path what shown × IsReport format (shown ∷ []) text × Appends old new text

-- there is an answer with this exit status, and it was printed; where it isn't refused, it is such a one
abbrev pub IsShown : (What → Type 0) → Option Format → List ℕ → ℕ → Option (List ℕ) → Option (List ℕ) → Type 0
IsShown Is format path status old new = (what : What) × (what_status what ≤ 1 → Is what) × (status ≡ what_status what) × IsPrinted format path what old new

-- the file at the path was given a page, which begins with the heading and the first line of an answer with this exit status; where that
-- is a verdict, this is so of it; where there is no path, the files are as they were
abbrev pub PutsPage : {Z : Type 0} → (Z → List ℕ → List ℕ → Z → Type 0) → (What → Type 0) → ℕ → Option (List ℕ) → Z → Z → Type 0
PutsPage puts Is status None old new = new ≡ old
PutsPage puts Is status (Some path) old new =
    (what : What) × (text : List ℕ) × (what_status what ≤ 1 → Is what) × (status ≡ what_status what) × IsPageOf what text × puts old path text new

-- the files are as they were, but that the one for the page may have been given that of such an answer
abbrev pub IsPaged : {Z : Type 0} → (Z → List ℕ → List ℕ → Z → Type 0) → (What → Type 0) → Option (List ℕ) → Z → Z → Type 0
IsPaged puts Is path old new = (new ≡ old) ⊎ ((status : ℕ) × PutsPage puts Is status path old new)
