use Rattle.fr_notes.specs.Fits.{NoteFits}
use Rattle.fr_finder.proofs.rounds.spread_to_each.Given as goal

abbrev pub invariant-loop-other : goal.invariant-loop-other
invariant-loop-other l = NoteFits l.before.app.now l.note.items
