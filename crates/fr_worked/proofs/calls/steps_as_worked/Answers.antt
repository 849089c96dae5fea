-- Each clause is proved row by row.
use Rattle.fr_worked.proofs.WorkedSteps.{worked-instrs, worked-ends, worked-stops, worked-bounds, worked-comparisons, worked-run}
use Rattle.fr_worked.proofs.calls.steps_as_worked.Goals as goal

pub returns : goal.returns
returns c = record { instrs = worked-instrs; ends = worked-ends; stops = worked-stops; bounds = worked-bounds; comparisons = worked-comparisons; run = worked-run }
