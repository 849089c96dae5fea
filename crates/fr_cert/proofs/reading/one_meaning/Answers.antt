use Rattle.fr_cert.proofs.Laws.{one_meaning}
use Rattle.fr_cert.proofs.reading.one_meaning.Goals as goal

pub returns : goal.returns
returns c = one_meaning
