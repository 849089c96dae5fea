-- What is left of the line becomes shorter with each token, and with each byte that is passed over.
use Rattle.std.proofs.Common.{length}
use Rattle.fr_place.proofs.line.call_with_recipe.Given as goal

abbrev pub decreases-loop-others : goal.decreases-loop-others
decreases-loop-others l = length l.text
