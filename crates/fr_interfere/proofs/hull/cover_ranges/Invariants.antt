use Rattle.fr_interfere.proofs.HullLaws.{Grown, IsWiderRange, HasRange}
use Rattle.fr_interfere.proofs.hull.cover_ranges.Given as goal

-- the ranges so far have the alternative's, and each has what it had
abbrev pub invariant-loop-entry : goal.invariant-loop-entry
invariant-loop-entry l = Grown IsWiderRange (HasRange l.alternative) l.fn.ranges l.ranges l.entry-index
