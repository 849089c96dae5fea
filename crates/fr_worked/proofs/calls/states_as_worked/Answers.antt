-- Each clause is proved case by case.
use Rattle.fr_worked.proofs.WorkedStates.{worked-formed, worked-contents, worked-new, worked-start}
use Rattle.fr_worked.proofs.calls.states_as_worked.Goals as goal

pub returns : goal.returns
returns c = record { formed = worked-formed; contents = worked-contents; new = worked-new; start = worked-start }
