-- The page of an answer.
use Rattle.std.specs.Prelude.{◌≡◌, ◌++◌, ℕ, List, string_bytes}
use Rattle.fr_page.specs.declared.page.Page.{Page}
use Rattle.fr_page.specs.Whole.{head_of}
use Rattle.fr_lanes.specs.Pages.{page_kind}
use Rattle.fr_outcome.specs.declared.answer.What.{What}
use Rattle.fr_outcome.specs.Answers.{kind_of, shown_line}

-- the text begins with the heading of the answer's kind and with the line that reports show of it
abbrev pub IsPageOf : What → List ℕ → Type 0
IsPageOf what text =
    (page : Page) × (page.kind ≡ page_kind (kind_of what)) × (string_bytes page.answer ≡ shown_line what)
    × (rest : List ℕ) × (text ≡ head_of page ++ rest)
