use Rattle.std.specs.Str.{bytes_eq}
use Rattle.fr_instr.proofs.CallLaws.{row_found, no_row_found}
use Rattle.fr_instr.proofs.call.row_named.Goals as goal

pub returns-in-Some : goal.returns-in-Some
returns-in-Some c = row_found (λ r. bytes_eq r.name c.args.name.now) c.rows-rows.result.now c.in-Some.place _ c.rows-rows.ensures c.in-Some.ensures

pub returns-in-None : goal.returns-in-None
returns-in-None c = no_row_found (λ r. bytes_eq r.name c.args.name.now) c.rows-rows.result.now c.rows-rows.ensures c.in-None.ensures
