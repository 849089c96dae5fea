use Rattle.fr_trace.proofs.Meaning.{means-once}
use Rattle.fr_trace.proofs.reading.one_meaning.Goals as goal

pub returns : goal.returns
returns c = means-once
