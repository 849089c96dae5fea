use Rattle.std.proofs.Common.{ℕ, ◌<◌, get_or, map}
use Rattle.std.specs.Prelude.{pos}
use Rattle.fr_notes.proofs.Terms.{RangesMeet, ends_of}
use Rattle.fr_notes.proofs.pairs.each_range_meets.Given as goal

-- each two ranges of one variable so far have a number in common
abbrev pub invariant-loop-variable : goal.invariant-loop-variable
invariant-loop-variable l =
    (x : ℕ) → x < l.variable → RangesMeet (get_or (map ends_of l.ranges) x (pos 0, pos 0)) (get_or (map ends_of l.others) x (pos 0, pos 0))
