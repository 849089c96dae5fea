use Rattle.fr_reader.proofs.FaultLaws.{no_meaning}
use Rattle.fr_reader.proofs.app.no_meaning.Goals as goal

pub returns : goal.returns
returns c = no_meaning
