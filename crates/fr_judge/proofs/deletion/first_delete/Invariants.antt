use Rattle.std.specs.Prelude.{◌≡◌, Some, slice_get}
use Rattle.fr_judge.proofs.Terms.{Point, points_of, AreChecked, Near}
use Rattle.fr_judge.proofs.deletion.first_delete.Given as goal

-- no delete at the points so far is a danger
abbrev pub invariant-loop-other : goal.invariant-loop-other
invariant-loop-other l = (p : Point) → slice_get (points_of l.app) l.number ≡ Some p → AreChecked l.app (λ q. Near l.app l.notes p q) l.other-items l.other-index
