use Rattle.fr_trace.proofs.Whys.{tokens-why}
use Rattle.fr_trace.proofs.reading.read_tokens.Goals as goal

pub returns-in-Err-clause-err : goal.returns-in-Err-clause-err
returns-in-Err-clause-err c = tokens-why c.args.names.now _ _ _ _ _ c.in-Some.ensures c.in-Err.ensures.err
