use Rattle.std.proofs.Common.{◌≡◌, ◌-◌}
use Rattle.fr_board.specs.Values.{IsOf}
use Rattle.fr_worker.specs.Kept.{KeepsAt}
use Rattle.fr_worker.specs.Worked.{AreRight}
use Rattle.fr_worker.proofs.Workers.{end_of}
use Rattle.fr_worker.proofs.worker.work_by.Given as goal

abbrev pub invariant-loop-claim : goal.invariant-loop-claim
invariant-loop-claim g l = record {
  own : IsOf l.board l.pass;
  weight : l.pass.progress.weight ≡ 1;
  right : AreRight (KeepsAt l.judging.app l.judging.certificate) l.pass.progress.drawn;
}

abbrev pub decreases-loop-claim : goal.decreases-loop-claim
decreases-loop-claim g l = l.board.jobs - end_of l.pass.progress.drawn
