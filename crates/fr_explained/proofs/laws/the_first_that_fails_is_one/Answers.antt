use Rattle.fr_explained.proofs.Beginnings.{one-first}
use Rattle.fr_explained.proofs.laws.the_first_that_fails_is_one.Goals as goal

pub returns : goal.returns
returns c = one-first
