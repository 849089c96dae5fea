use Rattle.std.proofs.Common.{◌≡◌, length}
use Rattle.std.specs.Prelude.{All}
use Rattle.fr_notes.specs.Fits.{NoteFits}
use Rattle.fr_finder.proofs.start.start.Given as goal

abbrev pub invariant-loop-number : goal.invariant-loop-number
invariant-loop-number l = record { count : length l.notes.items ≡ l.number; fit : All (λ note. NoteFits l.app note) l.notes.items }
