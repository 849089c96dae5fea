use Rattle.std.proofs.Common.{rules, Some}
use Rattle.std.proofs.lemmas.List.Elements.{All-pop, All-push}
use Rattle.fr_board.specs.Values.{PassValue}
use Rattle.fr_parallel.specs.Assignments.{IsNewOf}
use Rattle.fr_parallel.proofs.crew.start_all.Goals as goal

pub loop-pass-preserved : goal.loop-pass-preserved
loop-pass-preserved g c =
    let was = c.loop-pass.invariant in
    let popped = All-pop (λ (p : PassValue). IsNewOf c.args.assignment p) _ _ (Some c.in-Some.pass) c.in-Some.ensures.items was.new in record {
      new = popped.0;
      count = search rules;
      each = search (rules, All-push);
    }
