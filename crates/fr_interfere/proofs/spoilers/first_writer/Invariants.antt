use Rattle.std.specs.Prelude.{◌≡◌, Some, slice_get}
use Rattle.fr_interfere.proofs.Terms.{Point, points_of, IsFirstOf, WritesInside, IsBelow}
use Rattle.fr_interfere.proofs.spoilers.first_writer.Given as goal

-- the first one so far
abbrev pub invariant-loop-variable : goal.invariant-loop-variable
invariant-loop-variable l = (p : Point) → slice_get (points_of l.app) l.number ≡ Some p → IsFirstOf l.app l.notes p (IsBelow (WritesInside l.app l.notes) l.variable) l.least
