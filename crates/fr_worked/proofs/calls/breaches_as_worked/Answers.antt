-- Each clause is proved row by row.
use Rattle.fr_worked.proofs.WorkedRules.{worked-breaches, worked-least}
use Rattle.fr_worked.proofs.calls.breaches_as_worked.Goals as goal

pub returns : goal.returns
returns c = record { breaches = worked-breaches; least = worked-least }
