-- Notes that points share: the different notes, and for each point the place of its own among them. For the public
-- contract of `Notes::shared`.
use Rattle.std.specs.Prelude.{◌<◌, ℕ, List, [], All, length, map, slice_index_or}
use Rattle.fr_notes.specs.Note.{Note}

-- each of these is the place of a note
abbrev pub ArePlaces : List Note → List ℕ → Type 0
ArePlaces notes places = All (λ k. k < length notes) places

-- the notes at these places
abbrev pub notes_at : List Note → List ℕ → List Note
notes_at notes places = map (λ k. slice_index_or notes k []) places
