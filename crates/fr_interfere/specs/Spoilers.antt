-- For private clauses: the first of some points that disturbs a point's note.
--
-- | word                     | meaning                                                                        |
-- |--------------------------|--------------------------------------------------------------------------------|
-- | IsFirstOf                | the number of a point that disturbs the note, where none of some points with   |
-- |                          | a lesser one does; or none of them does                                        |
-- | IsListed                 | the point's number is in the list                                              |
-- | WritesInside, MakesOne   | its steps write this variable, and stay in the declared range; they create or  |
-- |                          | delete this object                                                             |
-- | IsBelow                  | so it is of one of the first variables or objects                              |
-- | least_of                 | the lesser number, where there are two                                         |
use Rattle.std.specs.Prelude.{◌≡◌, ◌<◌, ℕ, List, Option, None, Some, Contains, nat_le, if◌then◌else◌}
use Rattle.fr_program.specs.declared.ids.Point.{Point}
use Rattle.fr_program.specs.Program.{Program}
use Rattle.fr_program.specs.Lookup.{IsPoint}
use Rattle.fr_program.specs.Points.{point_number}
use Rattle.fr_notes.specs.Note.{Note}
use Rattle.fr_effects.specs.Effects.{effect_at, target_of, made_of}
use Rattle.fr_interfere.specs.Staying.{StaysAt}
use Rattle.fr_effects.specs.Undisturbed.{Undisturbed}

-- none of these points disturbs p's note; or the point with this number does, and none of these with a lesser number
abbrev pub IsFirstOf : Program → List Note → Point → (Point → Type 0) → Option ℕ → Type 0
IsFirstOf P notes p Among None = (q : Point) → IsPoint P q → Among q → Undisturbed P notes p q
IsFirstOf P notes p Among (Some k) =
    (q : Point) × IsPoint P q × (point_number P q ≡ k) × (Undisturbed P notes p q → ⊥)
    × ((other : Point) → IsPoint P other → Among other → point_number P other < k → Undisturbed P notes p other)

-- the point's number is in the list
abbrev pub IsListed : Program → List ℕ → Point → Type 0
IsListed P numbers q = Contains numbers (point_number P q)

-- its steps write this variable, and give it numbers of its declared range alone where the point's note holds
abbrev pub WritesInside : Program → List Note → ℕ → Point → Type 0
WritesInside P notes x q = (target_of (effect_at P q) ≡ Some x) × StaysAt P notes q

-- its steps create or delete this object
abbrev pub MakesOne : Program → ℕ → Point → Type 0
MakesOne P o q = made_of (effect_at P q) ≡ Some o

-- so it is of one of the first variables or objects
abbrev pub IsBelow : (ℕ → Point → Type 0) → ℕ → Point → Type 0
IsBelow IsSo bound q = (k : ℕ) × (k < bound) × IsSo k q

-- the lesser number, where there are two
abbrev pub least_of : Option ℕ → Option ℕ → Option ℕ
least_of None other = other
least_of (Some one) None = Some one
least_of (Some one) (Some other) = if nat_le one other then Some one else Some other
