use Rattle.fr_source.specs.Kept.{Slides}
use Rattle.fr_source.proofs.visible.end_of_gotos.Given as goal

-- gotos lead to where the search has come
abbrev pub invariant-loop : goal.invariant-loop
invariant-loop l = Slides l.program.variables.items l.lines l.first l.last
