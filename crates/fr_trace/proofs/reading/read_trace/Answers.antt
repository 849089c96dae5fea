use Rattle.std.proofs.Common.{subst}
use Rattle.std.specs.Str.Lines.{lines}
use Rattle.fr_trace.specs.Reads.{IsTextWhy}
use Rattle.fr_trace.proofs.Lines.{present}
use Rattle.fr_trace.proofs.reading.read_trace.Goals as goal

pub returns-in-Err-clause-fault : goal.returns-in-Err-clause-fault
returns-in-Err-clause-fault c =
    present c.args.names.now c.args.from_anywhere c.args.bytes.now _ (c.if-bytes-gt-MOST_TRACE_BYTES.false, c.in-Ok.ensures.cases.1)
    (subst (λ x. IsTextWhy c.args.names.now c.args.from_anywhere (lines x) c.in-Err.why) c.in-Ok.ensures.cases.0 c.in-Err.ensures.err)
