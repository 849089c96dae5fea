-- An application with notes that fit it, and what other actors' steps do to them: for the public contracts of
-- `Interference`.
--
-- | word           | meaning                                                                                         |
-- |----------------|-------------------------------------------------------------------------------------------------|
-- | InterferenceOf | an application with its notes, as the contracts see it                                          |
-- | interference_of| the one that an `Interference` in code is                                                       |
-- | IsKnown        | the notes fit, the index is the application's, and what is known of all steps is true           |
use Rattle.std.specs.Prelude.{◌↔◌, IsTrue, IfSome, List}
use Rattle.fr_program.specs.Program.{Program}
use Rattle.fr_notes.specs.Fits.{NotesFit}
use Rattle.fr_notes.specs.Note.{Note}
use Rattle.fr_interfere.specs.declared.interference.Interference.TheInside.{Inside}
use Rattle.fr_effects.specs.Index.{IsIndexOf}
use Rattle.fr_interfere.specs.Rows.{AreHullsOf}
use Rattle.fr_interfere.specs.Staying.{AllStay}

-- an application with its notes
pub record InterferenceOf : Type 0 where
  pub app : Program
  pub notes : List Note

-- the one that it is in code
abbrev pub interference_of : Inside → InterferenceOf
interference_of i = record { app = i.app.now; notes = i.notes.now }

-- the notes fit, the index is the application's, its hulls are, and all steps stay in declared ranges where that is said
pub record IsKnown (i : Inside) : Type 0 where
  pub fit : NotesFit i.app.now i.notes.now
  pub index : IsIndexOf i.app.now i.index.now
  pub hulls : IfSome i.hulls (λ h. AreHullsOf i.app.now i.notes.now i.index.now h.now)
  pub stay : IsTrue i.stay ↔ AllStay i.app.now i.notes.now
