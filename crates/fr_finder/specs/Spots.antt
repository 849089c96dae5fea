-- For private clauses: a point with its instruction and its note.
use Rattle.std.specs.Prelude.{◌≡◌, Some}
use Rattle.fr_program.specs.Program.{Program}
use Rattle.fr_program.specs.Lookup.{IsPoint, instr_of}
use Rattle.fr_program.specs.declared.ids.Point.{Point}
use Rattle.fr_program.specs.declared.instr.Instr.{Instr}
use Rattle.fr_notes.specs.Note.{Note}
use Rattle.fr_notes.specs.Fits.{NoteFits}

-- the application has the point, with this instruction
pub record IsPlaced (P : Program) (p : Point) (i : Instr) : Type 0 where
  pub point : IsPoint P p
  pub instr : instr_of P p ≡ Some i

-- the application has the point, with this instruction, and the note fits
pub record IsSpot (P : Program) (p : Point) (i : Instr) (note : Note) : Type 0 where
  pub placed : IsPlaced P p i
  pub fits : NoteFits P note
