use Rattle.fr_explained.proofs.Beginnings.{beginning}
use Rattle.fr_explained.proofs.laws.a_beginning_is_explained.Goals as goal

pub returns : goal.returns
returns c = beginning
