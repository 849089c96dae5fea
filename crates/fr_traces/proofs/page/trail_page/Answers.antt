-- The page has the heading and the line.
use Rattle.std.proofs.Common.{◌≡◌, ◌++◌, ◌∙◌, ℕ, List, Result, Ok, Err, IfOk, String, ap, rules, string_bytes}
use Rattle.fr_traces.proofs.Terms.{Global, AnswerKind, IsTrailPage}
use Rattle.fr_page.specs.declared.page.Page.{Page}
use Rattle.fr_page.specs.Whole.{head_of}
use Rattle.fr_lanes.specs.Pages.{page_kind}
use Rattle.fr_traces.proofs.page.trail_page.Goals as goal

written : {Y : Type 0} (kind : AnswerKind) (line : List ℕ) (page : Page) (r : Result (String Global) Y) → page.kind ≡ page_kind kind → string_bytes page.answer ≡ line
    → IfOk r (λ text. (rest : List ℕ) × (string_bytes text ≡ head_of page ++ rest)) → IfOk r (λ text. IsTrailPage kind line (string_bytes text))
written kind line page (Ok text) is said h = (page, is, said, h.0, h.1)
written kind line page (Err e) is said h = tt

pub returns : goal.returns
returns c =
    written c.args.answer.now.kind (string_bytes c.args.answer.now.line) c.page_with-page.result c.page_text.result (c.page_with-page.ensures.kind ∙ c.page_kind.ensures)
    (ap string_bytes c.page_with-page.ensures.line ∙ search rules) c.page_text.ensures
