use Rattle.std.proofs.Common.{◌≡◌, map}
use Rattle.fr_notes.proofs.Terms.{range_with_len, range_said, ends_of}
use Rattle.fr_notes.proofs.parts.ranges_said.Given as goal

-- the ranges so far are those of the variables so far
abbrev pub invariant-loop-variable : goal.invariant-loop-variable
invariant-loop-variable l = map ends_of l.ranges.items ≡ map (range_said l.app l.narrower) (range_with_len 0 l.variable)
