use Rattle.fr_notes.specs.Fits.{NoteFits}
use Rattle.fr_finder.proofs.rounds.arrive.Given as goal

abbrev pub invariant-loop-source : goal.invariant-loop-source
invariant-loop-source l = NoteFits l.before.app.now l.note.items
