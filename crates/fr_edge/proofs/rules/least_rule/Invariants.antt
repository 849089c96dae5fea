use Rattle.fr_edge.proofs.Terms.{NoteOutcome}
use Rattle.fr_edge.proofs.rules.least_rule.Given as goal

abbrev pub invariant-loop-alternative : goal.invariant-loop-alternative
invariant-loop-alternative l = NoteOutcome l.spot.app.now l.spot.point l.alternative-items l.alternative-index l.least
