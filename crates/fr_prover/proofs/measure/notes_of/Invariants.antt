use Rattle.std.proofs.Common.{◌≡◌, length}
use Rattle.std.specs.Prelude.{All}
use Rattle.fr_notes.specs.Fits.{NoteFits}
use Rattle.fr_prover.proofs.measure.notes_of.Given as goal

abbrev pub invariant-loop-number : goal.invariant-loop-number
invariant-loop-number l = record { count : length l.notes.items ≡ l.number; fit : All (λ note. NoteFits l.pool.app.now note) l.notes.items }
