-- For private clauses: what the search for a step looks for.
--
-- | word      | meaning                                                                               |
-- |-----------|---------------------------------------------------------------------------------------|
-- | HuntFits  | points, actors and alternatives of what is looked for are the application's           |
-- | IsSet     | in a state the actors are where they should be, each with its alternative             |
-- | IsFound   | a step is what is looked for                                                          |
-- | AreFound  | steps by one row, one for each alternative                                            |
-- | IsMade    | a step is by a row from where it should be to where it has to lead                    |
-- | UndoAll   | steps by some row that undo a note                                                    |
use Rattle.std.specs.Prelude.{◌≡◌, ◌<◌, List, [], Option, Some, All, Any, IfSome, length}
use Rattle.fr_program.specs.Lookup.{IsPoint}
use Rattle.fr_rules.specs.State.{State}
use Rattle.fr_rules.specs.declared.way.Way.{Way}
use Rattle.fr_notes.specs.Note.{Alternative, Note}
use Rattle.fr_notes.specs.Noted.{IsAt, NotedBy}
use Rattle.fr_notes.specs.Fits.{AlternativeFits}
use Rattle.fr_witness.specs.declared.hunt.Hunt.{Hunt}
use Rattle.fr_witness.specs.Shown.{Taken, IsTaken, Undoes, UndoesNote}

-- the application has the points and the actors, and the alternatives fit it
pub record HuntFits (h : Hunt) : Type 0 where
  pub point : IsPoint h.app.now h.mover
  pub mover : h.mover.actor.0 < length h.app.now.actors
  pub says : AlternativeFits h.app.now h.says.now
  pub other : IfSome h.other (λ o. IsPoint h.app.now o.0 × (o.0.actor.0 < length h.app.now.actors) × AlternativeFits h.app.now o.1.now)
  pub lands : IfSome h.lands (λ p. p.actor.0 < length h.app.now.actors)
  pub victim : h.victim.0 < length h.app.now.actors

-- the mover is at its point with its alternative, and so is the other actor, where one is looked at
abbrev pub IsSet : Hunt → State → Type 0
IsSet h S = NotedBy h.app.now h.mover h.says.now S × IfSome h.other (λ o. NotedBy h.app.now o.0 o.1.now S)

-- the step is the mover's, from such a state, by this row, and by the row that is asked, if one is; it lands where it has
-- to, and undoes the alternatives
pub record IsFound (h : Hunt) (asked : Option Way) (undone : List Alternative) (way : Way) (t : Taken) : Type 0 where
  pub actor : t.actor ≡ h.mover.actor
  pub before : IsSet h t.before
  pub taken : IsTaken h.app.now way t
  pub row : IfSome asked (λ w. w ≡ way)
  pub lands : IfSome h.lands (λ p. IsAt t.after p)
  pub undoes : All (λ n. Undoes h.victim.0 n t) undone

-- the steps are all by this row and from such a state, they land where they have to, and there is one for each of these
-- alternatives, which it undoes
abbrev pub AreFound : Hunt → Way → List Alternative → List Taken → Type 0
AreFound h way undone steps =
    All (λ t. IsFound h (Some way) [] way t) steps × All (λ n. Any (Undoes h.victim.0 n) steps) undone

-- the step is the mover's, from such a state, by this row, and lands where it has to
abbrev pub IsMade : Hunt → Way → Taken → Type 0
IsMade h way t =
    (t.actor ≡ h.mover.actor) × IsSet h t.before × IsTaken h.app.now way t × IfSome h.lands (λ p. IsAt t.after p)

-- the steps are all by one row and from such a state, they land where they have to, and for each alternative of the note
-- one of them undoes it
abbrev pub UndoAll : Hunt → Note → List Taken → Type 0
UndoAll h note steps = (way : Way) × All (λ t. IsMade h way t) steps × UndoesNote h.victim.0 note steps
