-- The soundness of the verdict: a certified application is safe.
--
-- | word                                  | meaning                                                             |
-- |---------------------------------------|---------------------------------------------------------------------|
-- | KeepsNotes                            | a state is well formed, and each actor's note holds of it           |
-- | Certified                             | no build fault, distinct turns, every part kept at every point      |
-- | StartKeepsNotes, StepKeepsNotes       | what the induction goes by: the start, a step                       |
-- | NotesExcludeBreaches                  | a state that keeps the notes has no breach                          |
-- | RunsKeepNotes, IsSound                | what comes of it: every state of every run, and safety              |
use Rattle.std.specs.Prelude.{ℕ, ℤ, List, Contains}
use Rattle.fr_program.specs.declared.ids.Point.{Point}
use Rattle.fr_program.specs.Program.{Program}
use Rattle.fr_program.specs.Fault.{IsFaultless}
use Rattle.fr_rules.specs.State.{State, IsWellFormed, start}
use Rattle.fr_rules.specs.declared.rules.Rule.{Rule}
use Rattle.fr_rules.specs.Rule.{Breach}
use Rattle.fr_rules.specs.Step.{Step}
use Rattle.fr_rules.specs.Run.{IsRun, IsSafe}
use Rattle.fr_notes.specs.Note.{Holds}
use Rattle.fr_notes.specs.Noted.{note_at, IsAt}
use Rattle.fr_ends.specs.Certificate.{Certificate, AllHaveDistinctTurns}
use Rattle.fr_judge.specs.Verdict.{IsCertified}

-- a well-formed state in which the note of each actor's point holds of it; an actor that is done has none
pub record KeepsNotes (P : Program) (C : Certificate) (S : State) : Type 0 where
  pub formed : IsWellFormed P S
  pub notes : (p : Point) → IsAt S p → Holds (note_at P C.notes p) p.actor.0 S

-- an application without a fault and a certificate for it with distinct turns, every part of which is kept
pub record Certified (P : Program) (C : Certificate) : Type 0 where
  pub faultless : IsFaultless P
  pub turns : AllHaveDistinctTurns C.ends
  pub kept : IsCertified P C

-- the start keeps the notes
abbrev pub StartKeepsNotes : Type 0
StartKeepsNotes = (P : Program) (C : Certificate) → Certified P C → KeepsNotes P C (start P)

-- a step from a state that keeps the notes leads to one that does
abbrev pub StepKeepsNotes : Type 0
StepKeepsNotes =
    (P : Program) (C : Certificate) → Certified P C →
    (S : State) (a : ℕ) (c : ℤ) (S' : State) → KeepsNotes P C S → Step P S a c S' → KeepsNotes P C S'

-- a state that keeps the notes has no breach of any rule by any actor
abbrev pub NotesExcludeBreaches : Type 0
NotesExcludeBreaches =
    (P : Program) (C : Certificate) → Certified P C →
    (S : State) → KeepsNotes P C S → (rule : Rule) (a : ℕ) → Breach P S rule a → ⊥

-- every state of every run keeps the notes
abbrev pub RunsKeepNotes : Program → Certificate → Type 0
RunsKeepNotes P C = (run : List State) → IsRun P run → (S : State) → Contains run S → KeepsNotes P C S

-- a certified application is safe, and every state of every run of it keeps the notes
abbrev pub IsSound : Type 0
IsSound = (P : Program) (C : Certificate) → Certified P C → IsSafe P × RunsKeepNotes P C
