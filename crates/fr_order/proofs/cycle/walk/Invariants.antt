use Rattle.std.specs.Prelude.{vec_len}
use Rattle.fr_order.proofs.Terms.{IsWalk}
use Rattle.fr_order.proofs.cycle.walk.Given as goal

abbrev pub invariant-walk : goal.invariant-walk
invariant-walk l = IsWalk l.edges l.peeled.rest.items l.unvisited.items l.path.items l.current

abbrev pub decreases-walk : goal.decreases-walk
decreases-walk l = vec_len l.unvisited
