use Rattle.fr_trace.proofs.Meaning.{no-meaning}
use Rattle.fr_trace.proofs.reading.no_meaning.Goals as goal

pub returns : goal.returns
returns c = no-meaning
