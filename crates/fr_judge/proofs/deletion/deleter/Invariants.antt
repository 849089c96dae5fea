use Rattle.std.specs.Prelude.{◌≡◌, ◌<◌, ℕ, Some, slice_get}
use Rattle.fr_judge.proofs.Terms.{Point, points_of, Near}
use Rattle.fr_judge.proofs.deletion.deleter.Given as goal

-- no delete at the points so far is a danger
abbrev pub invariant-loop-other : goal.invariant-loop-other
invariant-loop-other l = (p : Point) → slice_get (points_of l.app) l.number ≡ Some p → (k : ℕ) → k < l.other → (q : Point) → slice_get (points_of l.app) k ≡ Some q → Near l.app l.notes p q
