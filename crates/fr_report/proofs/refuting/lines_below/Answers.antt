-- Both lines look like no step.
use Rattle.std.proofs.Common.{◌≡◌, ◌∷◌, [], All, String, rules, string_bytes, subst, sym}
use Rattle.std.proofs.lemmas.List.Elements.{All-cons, All-nil}
use Rattle.std.specs.declared.alloc.Global.{Global}
use Rattle.fr_report.specs.Refuted.{IsBelow}
use Rattle.fr_report.proofs.refuting.lines_below.Goals as goal

abbrev IsLow : String Global → Type 0
IsLow line = IsBelow (string_bytes line)

pub returns : goal.returns
returns c =
    let one = c.in_ok-line_below.field-0 in
    let two = c.in_ok-line_below-2.field-0 in
    let both : c.push-2.new.self.items ≡ one ∷ two ∷ [] = search rules in
    subst (All IsLow) (sym both) (All-cons IsLow one (two ∷ []) c.in_ok-line_below.ensures (All-cons IsLow two [] c.in_ok-line_below-2.ensures (All-nil IsLow)))
