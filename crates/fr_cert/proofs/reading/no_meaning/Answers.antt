use Rattle.fr_cert.proofs.FaultLaws.{no_meaning}
use Rattle.fr_cert.proofs.reading.no_meaning.Goals as goal

pub returns : goal.returns
returns c = no_meaning
