use Rattle.std.proofs.Common.{ℕ}
use Rattle.fr_order.proofs.Terms.{ArePoints, HasTakesBelow}
use Rattle.fr_order.proofs.edges.all_takes.Given as goal

abbrev pub invariant-loop-number : goal.invariant-loop-number
invariant-loop-number l = record { points : ArePoints l.app l.takes.items; all : (m : ℕ) → HasTakesBelow l.app m l.takes.items l.number }
