use Rattle.fr_notes.proofs.Terms.{AllWithin, NoteFits}
use Rattle.fr_notes.proofs.notes.Notes.fits.Given as goal

-- each note so far fits
abbrev pub invariant-loop-number : goal.invariant-loop-number
invariant-loop-number l = AllWithin (NoteFits l.app) l.self 0 l.number
