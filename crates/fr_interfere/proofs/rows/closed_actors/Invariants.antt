use Rattle.std.proofs.Common.{◌≡◌, Some}
use Rattle.std.specs.Prelude.{slice_get}
use Rattle.fr_interfere.proofs.Terms.{AllWithin, Point, points_of, IsTold}
use Rattle.fr_interfere.proofs.rows.closed_actors.Given as goal

-- each block so far is told
abbrev pub invariant-loop-block : goal.invariant-loop-block
invariant-loop-block l = (p : Point) → slice_get (points_of l.app) l.number ≡ Some p → AllWithin (λ b. IsTold l.app l.notes p l.closed b) l.blocks 0 l.block-index
