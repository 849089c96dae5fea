use Rattle.fr_instr.specs.Calls.{is_same}
use Rattle.fr_instr.proofs.CallLaws.{row_found, no_row_found}
use Rattle.fr_instr.proofs.call.row_for.Goals as goal

pub returns-in-Some : goal.returns-in-Some
returns-in-Some c = row_found (λ r. is_same r.verb c.args.verb) c.rows-rows.result.now c.in-Some.place _ c.rows-rows.ensures c.in-Some.ensures

pub returns-in-None : goal.returns-in-None
returns-in-None c = no_row_found (λ r. is_same r.verb c.args.verb) c.rows-rows.result.now c.rows-rows.ensures c.in-None.ensures
