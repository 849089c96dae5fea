use Rattle.std.proofs.Common.{ℕ, ◌<◌, get_or}
use Rattle.fr_program.specs.declared.instr.Instr.{Instr}
use Rattle.fr_program.specs.InstrFault.{IsInstrFaultless}
use Rattle.fr_program.specs.View.{actor_of, program_of}
use Rattle.fr_program.proofs.check.check_code_of.Given as goal

-- the instructions so far have no fault
abbrev pub invariant-loop-pc : goal.invariant-loop-pc
invariant-loop-pc l =
    (k : ℕ) (d : Instr) → k < l.pc → IsInstrFaultless (program_of l.parts) l.a.0 (actor_of l.actor) (get_or l.actor.code.items k d)
