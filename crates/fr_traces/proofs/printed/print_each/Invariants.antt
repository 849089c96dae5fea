use Rattle.std.proofs.Common.{◌≤◌, None, map, take, true}
use Rattle.fr_traces.proofs.Terms.{Reads, AreTraces, AreTracesPrinted}
use Rattle.fr_traces.proofs.printed.print_each.Given as goal

-- the traces so far are answered and printed
abbrev pub invariant-loop-path : goal.invariant-loop-path
invariant-loop-path g l =
    AreTraces (Reads (g.F.Files.Gives l.files) g.F.Files.Means) l.asked l.app (map (λ s. s.now) (take l.path-index l.paths)) l.greatest
    (AreTracesPrinted None l.asked.app.now true (g.O.Write.contents l.fn.out) (g.O.Write.contents l.out)) × (l.greatest ≤ 3)
