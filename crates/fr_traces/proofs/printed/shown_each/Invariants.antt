use Rattle.std.proofs.Common.{◌≤◌, map, take}
use Rattle.fr_traces.proofs.Terms.{Each, Reads, AreTraces, ShowsTrace}
use Rattle.fr_traces.proofs.printed.shown_each.Given as goal

-- the traces so far are answered, and each answer is shown
abbrev pub invariant-loop-path : goal.invariant-loop-path
invariant-loop-path g l =
    AreTraces (Reads (g.F.Files.Gives l.files) g.F.Files.Means) l.asked l.app (map (λ s. s.now) (take l.path-index l.paths)) l.greatest
    (λ answers. Each (ShowsTrace l.asked.app.now) answers l.answers.items) × (l.greatest ≤ 3)
