use Rattle.std.proofs.Common.{◌≡◌, ◌+◌, length}
use Rattle.std.specs.Prelude.{All}
use Rattle.fr_parallel.specs.Assignments.{IsNewOf}
use Rattle.fr_parallel.proofs.crew.start_all.Given as goal

abbrev pub invariant-loop-pass : goal.invariant-loop-pass
invariant-loop-pass g l = record {
  new : All (λ p. IsNewOf l.assignment p) l.passes.items;
  count : length l.handles.items + length l.passes.items ≡ length l.initial.passes.items;
  each : All (λ x. x.promise ≡ l.assignment) l.handles.items;
}

abbrev pub decreases-loop-pass : goal.decreases-loop-pass
decreases-loop-pass g l = length l.passes.items
