-- By the run that is cut down to a part.
use Rattle.fr_parts.proofs.CutDown.{share-law}
use Rattle.fr_parts.proofs.laws.parts_share_nothing.Goals as goal

pub returns : goal.returns
returns c = share-law
