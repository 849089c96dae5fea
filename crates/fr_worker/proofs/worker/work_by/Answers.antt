use Rattle.std.proofs.Common.{ℕ, ◌∙◌}
use Rattle.fr_worker.specs.Kept.{KeepsAt}
use Rattle.fr_worker.proofs.Workers.{onward}
use Rattle.fr_worker.proofs.worker.work_by.Goals as goal

pub loop-claim-smaller : goal.loop-claim-smaller
loop-claim-smaller g c =
    let Keeps : ℕ → Type 0 = KeepsAt c.args.judging.now.app c.args.judging.now.certificate in
    let d = c.in-Some.ensures in
    let on = onward Keeps c.args.board.now.jobs _ _ _ _ d.drawn d.above d.below c.settle.ensures.settled in
    on.nearer

pub loop-claim-preserved : goal.loop-claim-preserved
loop-claim-preserved g c =
    let Keeps : ℕ → Type 0 = KeepsAt c.args.judging.now.app c.args.judging.now.certificate in
    let d = c.in-Some.ensures in
    let on = onward Keeps c.args.board.now.jobs _ _ _ _ d.drawn d.above d.below c.settle.ensures.settled in
    let was = c.loop-claim.invariant in record {
      own = c.settle.ensures.own;
      weight = on.weight_same ∙ was.weight;
      right = on.right was.right;
    }
