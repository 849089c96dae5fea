use Rattle.std.proofs.Common.{◌≤◌, map, take}
use Rattle.fr_answer.proofs.Terms.{beside, shown, Reads, AreAnswered, Shows, Each}
use Rattle.fr_answer.proofs.commands.list.shown_each.Given as goal

-- the lines so far are answered, and each answer is shown
abbrev pub invariant-loop-listed : goal.invariant-loop-listed
invariant-loop-listed g l =
    AreAnswered (Reads (g.F.Files.Gives l.files) g.F.Files.Means) l.ways.deadlock l.list (map shown (take l.listed-index l.entries)) l.greatest
    (λ lines. Each (λ line s. Shows (beside l.list line.entry.application) line.what s) lines l.answers.items) × (l.greatest ≤ 3)
