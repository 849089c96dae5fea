use Rattle.std.proofs.Common.{rules}
use Rattle.fr_ends.proofs.TurnLemmas.{rising}
use Rattle.fr_ends.proofs.fits.are_distinct.Goals as goal

pub returns-clause-rising : goal.returns-clause-rising
returns-clause-rising c = rising _ (λ x y e. search rules) _ c.iter.ensures.ordered
