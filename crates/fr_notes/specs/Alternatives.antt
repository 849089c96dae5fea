-- The alternatives of one note: the first of them, and those of several notes.
use Rattle.std.specs.Prelude.{◌≡◌, ◌<◌, ◌++◌, ℕ, List, [], ◌∷◌, Any, length, slice_index_or}
use Rattle.fr_notes.specs.Note.{Alternative, Note}
use Rattle.fr_notes.specs.Fits.{most_alternatives}
use Rattle.fr_notes.specs.declared.alternatives.AltsFault.{AltsFault}
use Rattle.fr_notes.specs.declared.alternatives.AltsFault.TheVariants.{Memory, TooMany, HasNever}

-- the alternative is one of so many first ones
abbrev pub IsAmong : Note → ℕ → Alternative → Type 0
IsAmong note bound n = (k : ℕ) × (k < bound) × (slice_index_or note k n ≡ n)

-- the alternatives of all notes, in their order
abbrev pub joined : List Note → Note
joined [] = []
joined (note ∷ notes) = note ++ joined notes

-- the fault is present: more than four alternatives in all, or a note that has none
abbrev pub IsPresent : List Note → AltsFault → Type 0
IsPresent notes Memory = ⊥
IsPresent notes TooMany = most_alternatives < length (joined notes)
IsPresent notes HasNever = Any (λ note. note ≡ []) notes
