use Rattle.std.proofs.Common.{◌≡◌, ◌+◌, ◌-◌, [], length}
use Rattle.std.specs.Prelude.{All}
use Rattle.fr_board.proofs.board.Board.new.Given as goal
use Rattle.fr_board.specs.Progress.{new_progress}

abbrev pub invariant-loop : goal.invariant-loop
invariant-loop l = record {
  seated : l.seat.table_id ≡ l.words.shared.table_id;
  seat : l.seat.me ≡ (new_progress l.jobs (l.seats + 1 - l.counter), []);
  count : length l.passes.items + 1 ≡ l.counter;
  each : All (λ p. (p.table ≡ l.words.shared.table_id) × (p.progress ≡ new_progress l.jobs 1)) l.passes.items;
}
