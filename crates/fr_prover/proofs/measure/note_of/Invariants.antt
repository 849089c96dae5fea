use Rattle.fr_notes.specs.Fits.{NoteFits}
use Rattle.fr_prover.proofs.measure.note_of.Given as goal

abbrev pub invariant-loop-facts : goal.invariant-loop-facts
invariant-loop-facts l = NoteFits l.pool.app.now l.note.items
