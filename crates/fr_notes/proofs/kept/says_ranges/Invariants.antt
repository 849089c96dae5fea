use Rattle.std.proofs.Common.{◌<◌, ℕ, pos, map, slice_index_or}
use Rattle.fr_notes.proofs.Terms.{ends_of, new_range, IsPart, joint_range}
use Rattle.fr_notes.proofs.kept.says_ranges.Given as goal

abbrev pub invariant-loop-variable : goal.invariant-loop-variable
invariant-loop-variable l = (x : ℕ) → x < l.variable → IsPart (new_range l.change x (joint_range l.known x)) (slice_index_or (map ends_of l.ranges) x (pos 0, pos 0))
