-- By the run that is cut down to a part.
use Rattle.fr_parts.proofs.CutDown.{free-law}
use Rattle.fr_parts.proofs.laws.parts_decide_deadlocks.Goals as goal

pub returns : goal.returns
returns c = free-law
