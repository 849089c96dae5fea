-- What the notes of an application in code mean.
use Rattle.std.specs.Prelude.{ℕ, List, Option, None, Some, Vec}
use Rattle.std.specs.declared.alloc.Global.{Global}
use Rattle.fr_notes.specs.declared.notes.Notes.TheInside.{Inside}
use Rattle.fr_notes.specs.Note.{Note}
use Rattle.fr_notes.specs.Places.{ArePlaces, notes_at}

-- each note by itself, or those at the places, if there are any
abbrev pub notes_by : List Note → Option (Vec ℕ Global) → List Note
notes_by notes None = notes
notes_by notes (Some places) = notes_at notes places.items

-- each place is that of a note
abbrev pub AreTheirs : List Note → Option (Vec ℕ Global) → Type 0
AreTheirs notes None = Unit {0}
AreTheirs notes (Some places) = ArePlaces notes places.items

-- the notes by the points' numbers
abbrev pub notes_of : Inside → List Note
notes_of n = notes_by n.notes.items n.places

-- so it is of all notes in code
abbrev pub HasPlaces : Inside → Type 0
HasPlaces n = AreTheirs n.notes.items n.places
