use Rattle.std.proofs.Common.{◌≡◌, map, take, string_bytes}
use Rattle.fr_instr.specs.Views.{texts}
use Rattle.fr_instr.proofs.app_names.variable_names.Given as goal

abbrev pub invariant-loop-variable : goal.invariant-loop-variable
invariant-loop-variable l = texts l.names.items ≡ map (λ x. string_bytes x.name) (take l.variable-index l.variables)
