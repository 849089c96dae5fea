-- Why guards of ends are refused.
use Rattle.std.specs.Prelude.{List, All, AllPairs}
use Rattle.fr_program.specs.Program.{Program}
use Rattle.fr_ends.specs.declared.fault.EndsFault.{EndsFault}
use Rattle.fr_ends.specs.declared.fault.EndsFault.TheVariants as fault
use Rattle.fr_ends.specs.Guard.{EndGuard}
use Rattle.fr_ends.specs.Fits.{EndFits, AreOfOneEnd}

-- the fault is present: not each guard fits, or an end is listed twice; want of memory is no fault of the guards
abbrev pub IsPresent : Program → List EndGuard → EndsFault → Type 0
IsPresent P ends fault.Memory = ⊥
IsPresent P ends fault.Guard = All (λ e. EndFits P e) ends → ⊥
IsPresent P ends fault.EndTwice = AllPairs (λ e f. AreOfOneEnd e f → ⊥) ends → ⊥
