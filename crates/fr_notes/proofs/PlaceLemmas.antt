-- Notes that points share, beside the list of the notes by point.
use Rattle.std.proofs.Common.{◌≡◌, ◌<◌, ℕ, List, [], Option, None, Some, Vec, Global, length, get_or, sym, ap, ◌∙◌, subst}
use Rattle.fr_notes.proofs.Terms.{get_or-map, get_or_default, Note}
use Rattle.fr_notes.specs.NotesView.{notes_by, AreTheirs}
use Rattle.fr_notes.specs.Places.{ArePlaces, notes_at}

-- with no places each point has its own note
pub each-own : (notes all : List Note) (places : Option (Vec ℕ Global)) → places ≡ None → notes_by notes places ≡ all → notes ≡ all
each-own notes all places none is = sym (ap (notes_by notes) none) ∙ is

-- with places each point has the note there
pub each-placed : (notes all : List Note) (places : Option (Vec ℕ Global)) (there : Vec ℕ Global) → places ≡ Some there → notes_by notes places ≡ all → notes_at notes there.items ≡ all
each-placed notes all places there some is = sym (ap (notes_by notes) some) ∙ is

-- and each place is that of a note
pub theirs : (notes : List Note) (places : Option (Vec ℕ Global)) (there : Vec ℕ Global) → places ≡ Some there → AreTheirs notes places → ArePlaces notes there.items
theirs notes places there some h = subst (AreTheirs notes) some h

-- the note that is read at a place
pub at-place : (notes : List Note) (places : List ℕ) (i : ℕ) (note : Note) → i < length places → get_or places i 0 < length notes → note ≡ get_or notes (get_or places i 0) note
    → note ≡ get_or (notes_at notes places) i []
at-place notes places i note within there is =
    is ∙ (get_or_default notes (get_or places i 0) note [] there ∙ sym (get_or-map (λ k. get_or notes k []) places i 0 [] within))
