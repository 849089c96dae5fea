use Rattle.std.specs.Prelude.{◌≡◌, Some, slice_get}
use Rattle.fr_interfere.proofs.Terms.{Point, points_of, IsFirstOf, MakesOne, IsBelow}
use Rattle.fr_interfere.proofs.spoilers.first_maker.Given as goal

-- the first one so far
abbrev pub invariant-loop-object : goal.invariant-loop-object
invariant-loop-object l = (p : Point) → slice_get (points_of l.app) l.number ≡ Some p → IsFirstOf l.app l.notes p (IsBelow (MakesOne l.app) l.object) l.least
