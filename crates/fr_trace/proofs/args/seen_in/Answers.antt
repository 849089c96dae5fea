use Rattle.std.proofs.lemmas.Result.{on_err_weaker}
use Rattle.fr_trace.proofs.Once.{none-all}
use Rattle.fr_trace.proofs.args.seen_in.Goals as goal

pub returns-in-Ok-clause-err : goal.returns-in-Ok-clause-err
returns-in-Ok-clause-err c =
    rw c.in-Some.ensures.cases.0 (on_err_weaker c.put_more.result (none-all c.args.names.now _ _ _ _ _ _ c.in-Ok.ensures.ok) c.put_more.ensures.err)

pub returns-in-Err-clause-err : goal.returns-in-Err-clause-err
returns-in-Err-clause-err c = rw c.in-Some.ensures.cases.0 (λ u h. c.in-Err.ensures.err h.0 h.1 h.2)
