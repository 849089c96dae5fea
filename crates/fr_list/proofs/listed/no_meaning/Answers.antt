use Rattle.fr_list.proofs.LineLaws.{nothing-present}
use Rattle.fr_list.proofs.listed.no_meaning.Goals as goal

pub returns : goal.returns
returns c = nothing-present
