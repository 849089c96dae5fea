use Rattle.std.proofs.Common.{◌≡◌, Some}
use Rattle.std.specs.Prelude.{slice_get}
use Rattle.fr_interfere.proofs.Terms.{Point, points_of, IsFirstOf, IsBelow}
use Rattle.fr_interfere.proofs.RowLaws.{IsInBlock}
use Rattle.fr_interfere.proofs.rows.first_in_blocks.Given as goal

-- the first one of the blocks so far
abbrev pub invariant-loop-block : goal.invariant-loop-block
invariant-loop-block l = (p : Point) → slice_get (points_of l.app) l.number ≡ Some p → IsFirstOf l.app l.notes p (IsBelow (IsInBlock l.app l.blocks) l.block-index) l.least
