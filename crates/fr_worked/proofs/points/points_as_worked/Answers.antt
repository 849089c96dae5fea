-- Each clause is computed.
use Rattle.std.proofs.Common.{refl}
use Rattle.fr_worked.proofs.points.points_as_worked.Goals as goal

pub returns : goal.returns
returns c = record { six = refl; fifth = refl; number = refl }
