use Rattle.std.proofs.Common.{ℕ, ◌<◌, ◌≤◌, ◌-◌, length, get_or}
use Rattle.std.specs.Prelude.{All, Any, Contains}
use Rattle.fr_interfere.proofs.Terms.{IsBlock}
use Rattle.fr_interfere.proofs.rows.blocks_of.Given as goal

-- the blocks have the points before this place
abbrev pub invariant-loop-from : goal.invariant-loop-from
invariant-loop-from l = record {
  within : l.from ≤ length l.numbers;
  each : All (λ b. IsBlock l.app l.notes b) l.blocks.items;
  found : (j : ℕ) → j < l.from → Any (λ b. Contains b.numbers.items (get_or l.numbers j 0)) l.blocks.items;
}

abbrev pub decreases-loop-from : goal.decreases-loop-from
decreases-loop-from l = length l.numbers - l.from
