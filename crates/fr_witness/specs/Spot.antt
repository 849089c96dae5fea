-- A point with its instruction and its note.
--
-- | word      | meaning                                                        |
-- |-----------|----------------------------------------------------------------|
-- | IsSpot    | the instruction and the note are the point's                   |
-- | IsSaidAt  | an alternative is one of the point's note                      |
use Rattle.std.specs.Prelude.{◌≡◌, ◌<◌, Some, length, Contains}
use Rattle.fr_program.specs.declared.ids.Point.{Point}
use Rattle.fr_program.specs.Program.{Program}
use Rattle.fr_program.specs.Lookup.{IsPoint, instr_of}
use Rattle.fr_notes.specs.Note.{Alternative}
use Rattle.fr_notes.specs.Fits.{AlternativeFits, NoteFits}
use Rattle.fr_notes.specs.Noted.{note_at}
use Rattle.fr_ends.specs.Certificate.{Certificate}
use Rattle.fr_notes.specs.declared.case.Spot.{Spot}

-- the application has the point; the instruction and the note are the point's
pub record IsSpot (P : Program) (C : Certificate) (s : Spot) : Type 0 where
  pub point : IsPoint P s.point
  pub actor : s.point.actor.0 < length P.actors
  pub instr : instr_of P s.point ≡ Some s.instr.now
  pub note : s.note.now ≡ note_at P C.notes s.point
  pub fits : NoteFits P s.note.now

-- the alternative is one of the point's note, and fits the application
abbrev pub IsSaidAt : Program → Certificate → Point → Alternative → Type 0
IsSaidAt P C p n = Contains (note_at P C.notes p) n × AlternativeFits P n
