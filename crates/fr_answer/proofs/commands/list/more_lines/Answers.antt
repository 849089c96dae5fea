-- The lines are all, or those that are always printed.
use Rattle.std.proofs.Common.{Bool, true, false, ◌≡◌, IfOk, Result, String, Vec}
use Rattle.fr_answer.proofs.Terms.{Global, lines_text, What, AreLinesOf, second_text, AreMore}
use Rattle.fr_answer.proofs.commands.list.more_lines.Goals as goal

all : {Y : Type 0} (explains : Bool) (what : What) (r : Result (Vec (String Global) Global) Y) → explains ≡ true → IfOk r (λ lines. AreLinesOf what (lines_text lines.items))
    → IfOk r (λ lines. AreMore explains what (lines_text lines.items))
all true what r e h = h
all false what r e h = let no : ⊥ = cc in absurd no

few : {Y : Type 0} (explains : Bool) (what : What) (r : Result (Vec (String Global) Global) Y) → explains ≡ false → IfOk r (λ lines. lines_text lines.items ≡ second_text what)
    → IfOk r (λ lines. AreMore explains what (lines_text lines.items))
few false what r e h = h
few true what r e h = let no : ⊥ = cc in absurd no

pub returns-then-explains : goal.returns-then-explains
returns-then-explains c = all c.args.explains c.args.what.now c.lines.result c.if-explains.true c.lines.ensures

pub returns-else-explains : goal.returns-else-explains
returns-else-explains c = few c.args.explains c.args.what.now c.second_lines.result c.if-explains.false c.second_lines.ensures
