use Rattle.std.proofs.Common.{◌≤◌, None, map, take}
use Rattle.fr_answer.proofs.Terms.{is_some, shown, Reads, AreAnswered, AreLinesPrinted}
use Rattle.fr_answer.proofs.commands.list.print_each.Given as goal

-- the lines so far are answered and printed
abbrev pub invariant-loop-entry : goal.invariant-loop-entry
invariant-loop-entry g l =
    AreAnswered (Reads (g.F.Files.Gives l.files) g.F.Files.Means) l.ways.deadlock l.list (map shown (take l.entry-index l.entries)) l.greatest
    (λ lines. AreLinesPrinted None (is_some l.ways.detail) l.list lines (g.O.Write.contents l.fn.out) (g.O.Write.contents l.out)) × (l.greatest ≤ 3)
