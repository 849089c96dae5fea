-- Each list is exact, point by point.
use Rattle.fr_interfere.proofs.Exactness.{indexes-exact}
use Rattle.fr_interfere.proofs.laws.an_index_is_exact.Goals as goal

pub returns : goal.returns
returns c = λ P I free index. indexes-exact P I free index
