-- The trail is one of different actors, so it can't get longer than there are actors.
use Rattle.std.proofs.Common.{◌+◌, ◌-◌, length}
use Rattle.fr_waits.proofs.Trail.{IsTrail}
use Rattle.fr_waits.proofs.cycle.deadlock_from.Given as goal

abbrev pub invariant-walk : goal.invariant-walk
invariant-walk l = IsTrail l.app l.state l.fn.actor.0 l.trail.items l.current.0

abbrev pub decreases-walk : goal.decreases-walk
decreases-walk l = l.actors + 1 - length l.trail.items
