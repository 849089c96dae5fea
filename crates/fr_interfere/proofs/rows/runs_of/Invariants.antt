use Rattle.std.proofs.Common.{ℕ, ◌<◌, ◌≤◌, ◌-◌, length}
use Rattle.std.specs.Prelude.{All}
use Rattle.fr_interfere.proofs.Terms.{IsRun, IsInRun}
use Rattle.fr_interfere.proofs.rows.runs_of.Given as goal

-- the runs have the places before this one
abbrev pub invariant-loop-from : goal.invariant-loop-from
invariant-loop-from l = record {
  within : l.from ≤ length l.numbers;
  each : All (λ r. IsRun l.numbers r) l.runs.items;
  found : (j : ℕ) → j < l.from → IsInRun l.runs.items j;
}

abbrev pub decreases-loop-from : goal.decreases-loop-from
decreases-loop-from l = length l.numbers - l.from
