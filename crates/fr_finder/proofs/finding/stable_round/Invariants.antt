use Rattle.fr_notes.specs.Fits.{NotesFit}
use Rattle.fr_finder.proofs.finding.stable_round.Given as goal

abbrev pub invariant-loop-round : goal.invariant-loop-round
invariant-loop-round g l = NotesFit l.app l.notes
