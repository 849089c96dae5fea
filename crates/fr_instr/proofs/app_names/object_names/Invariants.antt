use Rattle.std.proofs.Common.{◌≡◌, map, take, string_bytes}
use Rattle.fr_instr.specs.Views.{texts}
use Rattle.fr_instr.proofs.app_names.object_names.Given as goal

abbrev pub invariant-loop-object : goal.invariant-loop-object
invariant-loop-object l = texts l.names.items ≡ map (λ x. string_bytes x.name) (take l.object-index l.objects)
