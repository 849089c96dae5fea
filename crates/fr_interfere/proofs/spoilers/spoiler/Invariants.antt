use Rattle.std.specs.Prelude.{◌≡◌, ◌<◌, ℕ, Some, slice_get}
use Rattle.fr_interfere.proofs.Terms.{Point, points_of, Undisturbed}
use Rattle.fr_interfere.proofs.spoilers.spoiler.Given as goal

-- none of the points so far disturbs the note
abbrev pub invariant-loop-other : goal.invariant-loop-other
invariant-loop-other l = (p : Point) → slice_get (points_of l.app) l.number ≡ Some p → (k : ℕ) → k < l.other → (q : Point) → slice_get (points_of l.app) k ≡ Some q → Undisturbed l.app l.notes p q
