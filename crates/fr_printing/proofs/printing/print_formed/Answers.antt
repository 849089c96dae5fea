-- The report shows the answer.
use Rattle.std.proofs.Common.{◌≡◌, ℕ, List, [], ◌∷◌, Option, Some, Result, Ok, Err, IfOk, string_bytes, subst}
use Rattle.std.specs.Io.KnownBytes.{Appends}
use Rattle.fr_request.specs.declared.format.Format.{Format}
use Rattle.fr_formats.specs.declared.answer.AnswerShown.{AnswerShown}
use Rattle.fr_outcome.specs.declared.answer.What.{What}
use Rattle.fr_printing.specs.Printing.{IsPrinted}
use Rattle.fr_shown.specs.Shows.{Shows}
use Rattle.fr_formats.specs.Reports.{IsReport}
use Rattle.fr_printing.proofs.printing.print_formed.Goals as goal

formed : {X Y : Type 0} (format : Format) (path : List ℕ) (what : What) (old new : Option (List ℕ)) (shown : AnswerShown) (all : List AnswerShown) (r : Result X Y) → all ≡ shown ∷ [] → Shows path what shown
    → IfOk r (λ _. (text : List ℕ) × IsReport format all text × Appends old new text) → IfOk r (λ _. IsPrinted (Some format) path what old new)
formed format path what old new shown all (Ok x) is shows h = (shown, h.0, shows, subst (λ answers. IsReport format answers h.0) is h.1, h.2)
formed format path what old new shown all (Err y) is shows h = tt

pub returns-clause-text : goal.returns-clause-text
returns-clause-text g c =
    let shown = c.in_ok-shown.shown in
    let path = string_bytes c.args.answer.now.application in
    formed c.args.format path c.args.answer.now.what _ _ shown _ c.put_report.result c.from_ref.ensures.value c.in_ok-shown.ensures.shows c.put_report.ensures.report
