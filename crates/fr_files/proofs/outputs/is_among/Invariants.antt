use Rattle.std.proofs.Common.{◌≢◌, take}
use Rattle.std.specs.Prelude.{All}
use Rattle.fr_files.specs.Apart.{names}
use Rattle.fr_files.proofs.outputs.is_among.Given as goal

-- none of those before has this name
abbrev pub invariant-loop-other : goal.invariant-loop-other
invariant-loop-other l = All (λ other. other ≢ l.path) (names (take l.other-index l.others))
