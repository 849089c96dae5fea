use Rattle.fr_trace.proofs.Lines.{place-why}
use Rattle.fr_trace.proofs.reading.read_at.Goals as goal

pub returns-in-Err-clause-err : goal.returns-in-Err-clause-err
returns-in-Err-clause-err c = place-why c.args.names.now _ _ _ _ c.if-index-ne0.true (rw c.as_bytes.ensures.value at c.in-Err.ensures.err)
