-- Each clause is proved row by row.
use Rattle.fr_worked.proofs.WorkedParts.{worked-faults, worked-implied}
use Rattle.fr_worked.proofs.notes.parts_as_worked.Goals as goal

pub returns : goal.returns
returns c = record { faults = worked-faults; implied = worked-implied }
