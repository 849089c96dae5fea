-- For private clauses, and for the invariant of `Interference`: whether steps keep each variable in its declared range.
--
-- | word      | meaning                                                                                              |
-- |-----------|------------------------------------------------------------------------------------------------------|
-- | StaysAt   | the steps from a point, where its note holds, give variables numbers of their declared ranges alone  |
-- | AllStay   | so do those from every point                                                                         |
use Rattle.std.specs.Prelude.{List, All}
use Rattle.fr_program.specs.declared.ids.Point.{Point}
use Rattle.fr_program.specs.Program.{Program}
use Rattle.fr_program.specs.Lookup.{IsPoint}
use Rattle.fr_notes.specs.Note.{Note}
use Rattle.fr_notes.specs.Noted.{note_at}
use Rattle.fr_effects.specs.Effects.{effect_at, Stays}

-- whichever alternative of q's note holds, what the steps from q write is in its declared range
abbrev pub StaysAt : Program → List Note → Point → Type 0
StaysAt P notes q = All (λ m. Stays P (effect_at P q) m) (note_at P notes q)

-- so it is of every point
abbrev pub AllStay : Program → List Note → Type 0
AllStay P notes = (q : Point) → IsPoint P q → StaysAt P notes q
