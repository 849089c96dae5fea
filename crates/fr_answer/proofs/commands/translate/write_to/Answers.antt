-- The output passed.
use Rattle.std.proofs.Common.{refl}
use Rattle.fr_answer.proofs.commands.translate.write_to.Goals as goal

pub replace-requires : goal.replace-requires
replace-requires g c = c.in_default.ensures 0 _ refl
