-- The least actor up to here is the best so far.
use Rattle.std.proofs.Common.{nat_lt}
use Rattle.std.specs.List.{IsFirstBest}
use Rattle.fr_waits.proofs.cycle.place_of_least.Given as goal

abbrev pub invariant-loop-i : goal.invariant-loop-i
invariant-loop-i l = IsFirstBest (λ v w. nat_lt v.actor.0 w.actor.0) l.cycle l.i l.best
