-- For private clauses: what the text of an explanation needs of what it shows.
use Rattle.std.specs.Prelude.{◌<◌, List, All, IfSome, length}
use Rattle.fr_program.specs.Program.{Program}
use Rattle.fr_rules.specs.State.{IsWellFormed}
use Rattle.fr_notes.specs.Fits.{NoteFits}
use Rattle.fr_witness.specs.declared.taken.Taken.{Taken}
use Rattle.fr_reasons.specs.declared.reason.scene.Scene.{Scene}
use Rattle.fr_notes.specs.declared.case.Spot.{Spot}
use Rattle.fr_witness.specs.declared.evidence.Witness.{Witness}
use Rattle.fr_witness.specs.declared.evidence.Witness.TheVariants.{Start, Breaks, Leaves, Unguarded, Both}

-- the states before and after the step are well formed
abbrev pub IsFormedStep : Program → Taken → Type 0
IsFormedStep P t = IsWellFormed P t.before × IsWellFormed P t.after

-- so are those of all these steps
abbrev pub AreFormedSteps : Program → List Taken → Type 0
AreFormedSteps P steps = All (IsFormedStep P) steps

-- so is every state that the witness has
abbrev pub IsFormed : Program → Witness → Type 0
IsFormed P (Start S) = IsWellFormed P S
IsFormed P (Breaks S) = IsWellFormed P S
IsFormed P (Leaves steps) = AreFormedSteps P steps.items
IsFormed P (Unguarded S) = IfSome S (IsWellFormed P)
IsFormed P (Both S) = IsWellFormed P S

-- the note fits the application, and its actor is one of its own
abbrev pub IsSpot : Program → Spot → Type 0
IsSpot P s = NoteFits P s.note.now × (s.point.actor.0 < length P.actors)

-- so are those of both spots
abbrev pub IsScene : Scene → Type 0
IsScene s = IsSpot s.app.now s.spot × IfSome s.other (IsSpot s.app.now)
