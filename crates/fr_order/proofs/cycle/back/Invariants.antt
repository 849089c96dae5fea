use Rattle.fr_order.proofs.Terms.{LeadsFrom, AreAmong}
use Rattle.fr_order.proofs.cycle.back.Given as goal

abbrev pub invariant-steps : goal.invariant-steps
invariant-steps l = record { among : AreAmong l.reached l.path.items; leads : LeadsFrom l.current.0 l.path.items l.first.0 }
