-- Steps that are shown, and what they show.
--
-- | word        | meaning                                                                                  |
-- |-------------|------------------------------------------------------------------------------------------|
-- | IsTaken     | a step that is shown begins in a well-formed state and goes by this row                  |
-- | Undoes      | after the step the alternative doesn't hold of the actor                                 |
-- | UndoesNote  | for each alternative of a note one of the steps undoes it                                |
use Rattle.std.specs.Prelude.{◌≢◌, ℕ, List, [], All, Any}
use Rattle.fr_program.specs.Program.{Program}
use Rattle.fr_rules.specs.State.{IsWellFormed}
use Rattle.fr_rules.specs.declared.way.Way.{Way}
use Rattle.fr_rules.specs.Step.{StepBy}
use Rattle.fr_notes.specs.Note.{Alternative, Note, HoldsOne}
pub use Rattle.fr_witness.specs.declared.taken.Taken.{Taken}

-- the step leads by this row of the step table from a well-formed state to the state after it, which is one too
pub record IsTaken (P : Program) (way : Way) (t : Taken) : Type 0 where
  pub formed : IsWellFormed P t.before
  pub left : IsWellFormed P t.after
  pub step : StepBy P way t.before t.actor.0 t.choice t.after

-- after the step the alternative doesn't hold of the actor
abbrev pub Undoes : ℕ → Alternative → Taken → Type 0
Undoes a n t = HoldsOne n a t.after → ⊥

-- there is a step, and for each alternative of the note one of the steps undoes it for the actor
abbrev pub UndoesNote : ℕ → Note → List Taken → Type 0
UndoesNote a note steps = (steps ≢ []) × All (λ n. Any (Undoes a n) steps) note
