use Rattle.std.proofs.lemmas.Result.{on_err_weaker}
use Rattle.fr_trace.proofs.Once.{none-first, none-more}
use Rattle.fr_trace.proofs.args.+put_more.Goals as goal

pub returns-in-Ok-clause-err : goal.returns-in-Ok-clause-err
returns-in-Ok-clause-err t c =
    rw c.in-Some.ensures.cases.0 (on_err_weaker c.put_more.result (none-more c.args.names.now _ _ _ _ _ _ _ c.in-Some-past_comma.ensures.some c.in-Ok.ensures.ok) c.put_more.ensures.err)

pub returns-in-Err-clause-err : goal.returns-in-Err-clause-err
returns-in-Err-clause-err t c = rw c.in-Some.ensures.cases.0 (none-first c.args.names.now _ _ _ _ _ c.in-Some-past_comma.ensures.some c.in-Err.ensures.err)
