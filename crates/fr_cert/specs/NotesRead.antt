-- For private clauses: notes that are read, each of them once for many entries.
--
-- | word               | meaning                                                                                    |
-- |--------------------|--------------------------------------------------------------------------------------------|
-- | IsReadAt           | a value means the note at a place                                                          |
-- | AreRemembered      | so it is of each of some values with their places                                          |
-- | AreRead, AreReadBy | entries mean the notes at their places, one for each, and each note fits                   |
use Rattle.std.specs.Prelude.{◌<◌, ℕ, List, [], All, length, slice_index_or}
use Rattle.serde_json.specs.View.{view, items_view}
use Rattle.serde_json.specs.declared.value.Value.{Value}
use Rattle.fr_program.specs.Program.{Program}
use Rattle.fr_notes.specs.Fits.{NoteFits}
use Rattle.fr_notes.specs.Note.{Note}
use Rattle.fr_notes.specs.Places.{ArePlaces, notes_at}
use Rattle.fr_cert.specs.Shapes.{EachEntry}
use Rattle.fr_cert.specs.Meaning.{IsNote}
use Rattle.fr_cert.specs.declared.notes.NotesRead.{NotesRead}

-- the value means the note at this place
pub record IsReadAt (P : Program) (version : ℕ) (notes : List Note) (v : Value) (place : ℕ) : Type 0 where
  pub there : place < length notes
  pub means : IsNote P version (view v) (slice_index_or notes place [])

-- so does each value that is remembered, at the place beside it
abbrev pub AreRemembered : Program → ℕ → List Note → List (Value × ℕ) → Type 0
AreRemembered P version notes recent = All (λ e. IsReadAt P version notes e.0 e.1) recent

-- the entries mean the notes at these places, one for each; each note fits, and what is remembered is read
pub record AreRead (P : Program) (version : ℕ) (entries : List Value) (notes : List Note) (places : List ℕ) (recent : List (Value × ℕ)) : Type 0 where
  pub fit : All (λ note. NoteFits P note) notes
  pub there : ArePlaces notes places
  pub means : EachEntry (IsNote P version) (items_view entries) (notes_at notes places)
  pub remembered : AreRemembered P version notes recent

-- the same of what the code keeps
abbrev pub AreReadBy : Program → ℕ → List Value → NotesRead → Type 0
AreReadBy P version entries r = AreRead P version entries r.notes.items r.places.items r.recent.items
