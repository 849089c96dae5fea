use Rattle.std.proofs.Common.{◌≡◌, ℕ, ◌<◌, Some}
use Rattle.fr_program.specs.declared.instr.Instr.{Instr}
use Rattle.fr_program.specs.InstrFault.{IsInstrFaultless}
use Rattle.fr_program.specs.Lookup.{actor_at, instr_at}
use Rattle.fr_program.specs.View.{program_of}
use Rattle.fr_program.proofs.check.check_code.Given as goal

-- the instructions of the actors so far have no fault
abbrev pub invariant-loop-a : goal.invariant-loop-a
invariant-loop-a l =
    (a : ℕ) → a < l.a → (pc : ℕ) (i : Instr) → instr_at (program_of l.parts) a pc ≡ Some i → IsInstrFaultless (program_of l.parts) a (actor_at (program_of l.parts) a) i
