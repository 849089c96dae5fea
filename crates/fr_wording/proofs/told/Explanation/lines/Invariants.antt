-- A line for each item so far.
use Rattle.std.proofs.Common.{◌≡◌, length}
use Rattle.fr_wording.proofs.told.Explanation.lines.Given as goal

abbrev pub invariant-loop-item : goal.invariant-loop-item
invariant-loop-item l = length l.lines.items ≡ l.item-index
