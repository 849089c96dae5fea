use Rattle.fr_notes.specs.Fits.{NoteFits}
use Rattle.fr_finder.proofs.rounds.arrive_from.Given as goal

abbrev pub invariant-loop-alternative : goal.invariant-loop-alternative
invariant-loop-alternative l = NoteFits l.before.app.now l.note.items
