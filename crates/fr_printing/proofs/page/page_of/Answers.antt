-- The page has the heading and the line.
use Rattle.std.proofs.Common.{◌≡◌, ◌++◌, ◌∙◌, ℕ, List, Result, Ok, Err, IfOk, String, ap, string_bytes}
use Rattle.std.specs.declared.alloc.Global.{Global}
use Rattle.fr_page.specs.declared.page.Page.{Page}
use Rattle.fr_page.specs.Whole.{head_of}
use Rattle.fr_outcome.specs.declared.answer.What.{What}
use Rattle.fr_outcome.specs.Answers.{kind_of, shown_line}
use Rattle.fr_lanes.specs.Pages.{page_kind}
use Rattle.fr_printing.specs.Pages.{IsPageOf}
use Rattle.fr_printing.proofs.page.page_of.Goals as goal

written : {Y : Type 0} (what : What) (page : Page) (r : Result (String Global) Y) → page.kind ≡ page_kind (kind_of what) → string_bytes page.answer ≡ shown_line what
    → IfOk r (λ text. (rest : List ℕ) × (string_bytes text ≡ head_of page ++ rest)) → IfOk r (λ text. IsPageOf what (string_bytes text))
written what page (Ok text) kind line h = (page, kind, line, h.0, h.1)
written what page (Err e) kind line h = tt

pub returns : goal.returns
returns c =
    written c.args.answer.now.what c.page_with-page.result c.page_text.result (c.page_with-page.ensures.kind ∙ c.page_kind-kind.ensures ∙ ap page_kind c.kind.ensures)
    (ap string_bytes c.page_with-page.ensures.line ∙ c.in_ok-line.ensures) c.page_text.ensures
