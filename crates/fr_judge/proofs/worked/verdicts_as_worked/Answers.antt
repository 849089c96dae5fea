-- Each verdict is proved by itself.
use Rattle.fr_judge.proofs.WorkedVerdicts.{round-is-yes, round-is-certified, return-is-no}
use Rattle.fr_judge.proofs.worked.verdicts_as_worked.Goals as goal

pub returns : goal.returns
returns c = record { round = round-is-yes; certified = round-is-certified; returning = return-is-no }
