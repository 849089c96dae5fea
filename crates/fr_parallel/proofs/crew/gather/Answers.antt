use Rattle.std.proofs.Common.{◌≡◌, ◌+◌, Some, subst, arith}
use Rattle.std.proofs.lemmas.List.Elements.{All-pop}
use Rattle.std.specs.declared.thread.PromisedHandle.{PromisedHandle}
use Rattle.fr_board.specs.declared.pass.Pass.{Pass}
use Rattle.fr_board.specs.Values.{PassValue}
use Rattle.fr_parallel.specs.Assignments.{IsDoneBy}
use Rattle.fr_parallel.specs.declared.crew.Assignment.{Assignment}
use Rattle.fr_worker.proofs.Workers.{joined-gathered}
use Rattle.fr_parallel.proofs.crew.gather.Goals as goal

same-assignment : (t u : Assignment) (p : PassValue) → t ≡ u → IsDoneBy t 1 p → IsDoneBy u 1 p
same-assignment t u p same done = subst (λ (v : Assignment). IsDoneBy v 1 p) same done

pub loop-handle-preserved : goal.loop-handle-preserved
loop-handle-preserved g c =
    let was = c.loop-handle.invariant in
    let Keeps : PromisedHandle Pass Assignment → Type 0 = λ x. x.promise ≡ c.args.assignment in
    let popped = All-pop Keeps _ _ (Some c.in-Some-pop.handle) c.in-Some-pop.ensures.items was.each in
    let one : IsDoneBy c.args.assignment 1 c.join.result = same-assignment c.in-Some-pop.handle.promise c.args.assignment c.join.result popped.1 c.join.ensures in
    let both = c.join-all-in-Some-pop.ensures in record {
      each = popped.0;
      all = (was.all.0 + 1, omega (arith, was.all.1, c.in-Some-pop.ensures.len), joined-gathered _ _ was.all.0 1 _ _ _ was.all.2 one both.own both.joined);
    }
