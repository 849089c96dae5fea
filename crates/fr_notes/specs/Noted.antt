-- States in which an actor stands at a point, and the point's note holds of it.
use Rattle.std.specs.Prelude.{◌≡◌, List, [], slice_index_or}
use Rattle.fr_program.specs.declared.ids.Point.{Point}
use Rattle.fr_program.specs.Program.{Program}
use Rattle.fr_program.specs.Points.{point_number}
use Rattle.fr_rules.specs.State.{State, At, place_of, IsWellFormed}
use Rattle.fr_notes.specs.Note.{Alternative, Note, HoldsOne, Holds}

-- the note of a point; notes go in the order of the points' numbers
abbrev pub note_at : Program → List Note → Point → Note
note_at P notes p = slice_index_or notes (point_number P p) []

-- the point's actor stands there
abbrev pub IsAt : State → Point → Type 0
IsAt S p = place_of S p.actor.0 ≡ At p.pc p.side

-- a well-formed state in which the point's actor stands there and the point's note holds of it
pub record Noted (P : Program) (notes : List Note) (p : Point) (S : State) : Type 0 where
  pub formed : IsWellFormed P S
  pub at : IsAt S p
  pub holds : Holds (note_at P notes p) p.actor.0 S

-- the same, by this alternative
pub record NotedBy (P : Program) (p : Point) (n : Alternative) (S : State) : Type 0 where
  pub formed : IsWellFormed P S
  pub at : IsAt S p
  pub holds : HoldsOne n p.actor.0 S
