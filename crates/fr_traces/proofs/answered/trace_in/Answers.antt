-- The trace that was read is that of the application's names.
use Rattle.std.proofs.Common.{IfErr, IfOk, subst}
use Rattle.fr_trace.specs.Means.{IsPresent, TraceMeans, said_in}
use Rattle.fr_traces.proofs.answered.trace_in.Goals as goal

pub returns-clause-means : goal.returns-clause-means
returns-clause-means c =
    subst (λ N. IfOk c.read_trace.result (λ trace. TraceMeans N c.args.from_anywhere c.args.bytes.now (said_in trace))) c.in_ok-names.ensures c.read_trace.ensures.means

pub returns-clause-fault : goal.returns-clause-fault
returns-clause-fault c =
    subst (λ N. IfErr c.read_trace.result (IsPresent N c.args.from_anywhere c.args.bytes.now)) c.in_ok-names.ensures c.read_trace.ensures.fault
