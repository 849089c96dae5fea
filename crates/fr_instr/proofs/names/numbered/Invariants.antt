use Rattle.std.proofs.Common.{◌≡◌, map, take, string_bytes}
use Rattle.fr_instr.specs.Views.{texts}
use Rattle.fr_instr.proofs.names.numbered.Given as goal

abbrev pub invariant-loop-name : goal.invariant-loop-name
invariant-loop-name l = map string_bytes l.set.keys ≡ take l.name-index (texts l.names)
