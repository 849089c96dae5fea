-- Which object calls have a block time, and which are for interrupts.
use Rattle.std.specs.Prelude.{Bool, true, false}
use Rattle.fr_program.specs.declared.instr.Act.{Act}
use Rattle.fr_program.specs.declared.instr.Act.TheVariants.{Try}
use Rattle.fr_program.specs.declared.instr.Attempt.TheVariants.{Take, Give, Reset}
use Rattle.fr_program.specs.declared.instr.SemaphoreForm.TheVariants.{Recursive}
use Rattle.fr_program.specs.declared.instr.Timing.{Timing}
use Rattle.fr_program.specs.declared.instr.Timing.TheVariants.{Now, FromIsr, Waits}

-- whether a call with this act can have this timing: gives and resets have no block time and all others have one, and
-- resets and the forms for recursive mutexes aren't for interrupts
abbrev pub suits_timing : Timing → Act → Bool
suits_timing Now (Try (Give form) e) = true
suits_timing Now (Try (Reset buffer) e) = true
suits_timing Now act = false
suits_timing FromIsr (Try (Take Recursive) e) = false
suits_timing FromIsr (Try (Give Recursive) e) = false
suits_timing FromIsr (Try (Reset buffer) e) = false
suits_timing FromIsr act = true
suits_timing (Waits time) (Try (Give form) e) = false
suits_timing (Waits time) (Try (Reset buffer) e) = false
suits_timing (Waits time) act = true
