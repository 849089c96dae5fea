-- What is true of the notes of every application without a fault.
use Rattle.std.specs.Prelude.{ℕ, ◌<◌, length}
use Rattle.fr_program.specs.Program.{Program}
use Rattle.fr_program.specs.Fault.{IsFaultless}
use Rattle.fr_rules.specs.State.{State, IsWellFormed}
use Rattle.fr_notes.specs.Note.{Alternative, HoldsOne}
use Rattle.fr_notes.specs.Fits.{AlternativeFits}

-- an alternative that fits holds of each actor in some state
abbrev pub FittingHolds : Type 0
FittingHolds =
    (P : Program) → IsFaultless P → (n : Alternative) → AlternativeFits P n → (a : ℕ) → a < length P.actors →
    (S : State) × IsWellFormed P S × HoldsOne n a S
