use Rattle.std.specs.Prelude.{◌≡◌, Some, slice_get}
use Rattle.fr_interfere.proofs.Terms.{Point, points_of, Undisturbed}
use Rattle.fr_effects.proofs.IndexLaws.{AreChecked}
use Rattle.fr_interfere.proofs.spoilers.first_listed.Given as goal

-- none of the points so far disturbs the note
abbrev pub invariant-loop-other : goal.invariant-loop-other
invariant-loop-other l = (p : Point) → slice_get (points_of l.app) l.number ≡ Some p → AreChecked l.app (λ q. Undisturbed l.app l.notes p q) l.listed l.other-index
