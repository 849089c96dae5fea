-- Two notes: whether one implies the other, and whether some state has both.
use Rattle.std.specs.Prelude.{◌≢◌, ◌<◌, ℕ, length}
use Rattle.fr_program.specs.Program.{Program}
use Rattle.fr_rules.specs.State.{State, IsWellFormed}
use Rattle.fr_notes.specs.Note.{Note, Holds}

-- the second note holds of every actor in every state in which the first one does
abbrev pub Implies : Program → Note → Note → Type 0
Implies P one other = (a : ℕ) → a < length P.actors → (S : State) → IsWellFormed P S → Holds one a S → Holds other a S

-- of two actors: some state has one note of the one, and another note of the other
abbrev pub AreTogether : Program → ℕ → Note → ℕ → Note → Type 0
AreTogether P a one b other = (a ≢ b) × (S : State) × IsWellFormed P S × Holds one a S × Holds other b S
