use Rattle.std.proofs.Common.{length}
use Rattle.fr_instr.proofs.meaning.+more_given.Given as goal

abbrev pub decreases-more_given : goal.decreases-more_given
decreases-more_given l = length l.places.now
