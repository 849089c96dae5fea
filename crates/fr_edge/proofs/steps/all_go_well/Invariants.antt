use Rattle.fr_edge.proofs.Terms.{Alternative, IsAmong, GoesWell}
use Rattle.fr_edge.proofs.steps.all_go_well.Given as goal

abbrev pub invariant-loop-alternative : goal.invariant-loop-alternative
invariant-loop-alternative l = (n : Alternative) → IsAmong l.alternative-items l.alternative-index n → GoesWell l.spot.app.now l.spot.point n l.way l.next
