use Rattle.std.proofs.Common.{refl}
use Rattle.fr_trace.proofs.Whys.{none-called}
use Rattle.fr_trace.proofs.reading.calls_in.Goals as goal

pub returns-in-None-clause-err : goal.returns-in-None-clause-err
returns-in-None-clause-err c = (refl, none-called c.args.tokens.now c.loop-token.token-index _ c.loop-token-test.true c.in-None.ensures)
