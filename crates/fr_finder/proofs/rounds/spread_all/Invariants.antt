use Rattle.fr_notes.specs.Fits.{NoteFits}
use Rattle.fr_finder.proofs.rounds.spread_all.Given as goal

abbrev pub invariant-loop-effect : goal.invariant-loop-effect
invariant-loop-effect l = NoteFits l.before.app.now l.note.items
