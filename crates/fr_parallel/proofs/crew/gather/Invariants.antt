use Rattle.std.proofs.Common.{◌≡◌, ◌+◌, ℕ, length}
use Rattle.std.specs.Prelude.{All}
use Rattle.fr_parallel.specs.Assignments.{IsDoneBy}
use Rattle.fr_parallel.proofs.crew.gather.Given as goal

abbrev pub invariant-loop-handle : goal.invariant-loop-handle
invariant-loop-handle g l = record {
  each : All (λ x. x.promise ≡ l.assignment) l.handles.items;
  all : (n : ℕ) × (n + length l.handles.items ≡ length l.fn.handles.items) × IsDoneBy l.assignment n l.all;
}

abbrev pub decreases-loop-handle : goal.decreases-loop-handle
decreases-loop-handle g l = length l.handles.items
