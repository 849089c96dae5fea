-- By the run that is cut down to a part.
use Rattle.fr_parts.proofs.CutDown.{safe-law}
use Rattle.fr_parts.proofs.laws.parts_decide_safety.Goals as goal

pub returns : goal.returns
returns c = safe-law
