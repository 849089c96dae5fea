use Rattle.fr_reader.proofs.Laws.{one_meaning}
use Rattle.fr_reader.proofs.app.one_meaning.Goals as goal

pub returns : goal.returns
returns c = one_meaning
