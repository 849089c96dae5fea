use Rattle.std.proofs.Common.{length}
use Rattle.fr_instr.proofs.direct.+more_args_in.Given as goal

abbrev pub decreases-more_args_in : goal.decreases-more_args_in
decreases-more_args_in l = length l.places.now
