use Rattle.std.proofs.Common.{◌<◌, ℕ}
use Rattle.fr_edge.proofs.Terms.{BeginsWithin}
use Rattle.fr_edge.proofs.entry.begins_with_ranges.Given as goal

abbrev pub invariant-loop-x : goal.invariant-loop-x
invariant-loop-x l = (k : ℕ) → k < l.x → BeginsWithin l.ranges l.variables k
