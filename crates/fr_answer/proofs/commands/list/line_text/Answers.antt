-- The text of a line, with those that follow.
use Rattle.std.proofs.Common.{◌≡◌, ◌++◌, ℕ, List, Bool, Result, Ok, Err, IfOk, String, codes, rules, string_bytes}
use Rattle.fr_answer.proofs.Terms.{Global, lines_text, What, first_line, AreMore}
use Rattle.fr_answer.proofs.commands.list.line_text.Goals as goal

with-more : {Y : Type 0} (explains : Bool) (what : What) (heading more : List ℕ) (r : Result (String Global) Y) → AreMore explains what more
    → IfOk r (λ text. string_bytes text ≡ heading ++ (first_line what ++ (codes "\n" ++ more)))
    → IfOk r (λ text. (more : List ℕ) × AreMore explains what more × (string_bytes text ≡ heading ++ (first_line what ++ (codes "\n" ++ more))))
with-more explains what heading more (Ok text) lines h = (more, lines, h)
with-more explains what heading more (Err y) lines h = tt

pub returns : goal.returns
returns c =
    let more : string_bytes c.in_ok-more.more ≡ lines_text c.in_ok-more_lines.field-0.items = search rules in
    let lines : AreMore c.args.explains c.args.what.now (string_bytes c.in_ok-more.more) = rw more c.in_ok-more_lines.ensures in
    with-more c.args.explains c.args.what.now c.args.heading.now (string_bytes c.in_ok-more.more) c.format.result lines (search rules)
