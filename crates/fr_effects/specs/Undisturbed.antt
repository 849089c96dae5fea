-- Whether the steps of another actor from its point leave a point's note holding.
use Rattle.std.specs.Prelude.{◌≢◌, List, Contains}
use Rattle.fr_program.specs.declared.ids.Point.{Point}
use Rattle.fr_program.specs.Program.{Program}
use Rattle.fr_program.specs.Lookup.{IsPoint}
use Rattle.fr_rules.specs.State.{State}
use Rattle.fr_rules.specs.declared.way.Way.{Way}
use Rattle.fr_rules.specs.Step.{CanStep, AlwaysLeaves, Anywhere}
use Rattle.fr_notes.specs.Note.{Alternative, Note, HoldsOne}
use Rattle.fr_notes.specs.Noted.{note_at, NotedBy}

-- p's actor stands at p with this alternative, and q's at q with that one
abbrev pub AreNotedBy : Program → Point → Alternative → Point → Alternative → State → Type 0
AreNotedBy P p n q m S = NotedBy P p n S × NotedBy P q m S

-- For each alternative of p's note and of q's, and each row by which some state with both steps from q, one
-- alternative of p's note is left by every such step. Points of one actor don't disturb each other.
abbrev pub Undisturbed : Program → List Note → Point → Point → Type 0
Undisturbed P notes p q =
    IsPoint P q → q.actor ≢ p.actor →
    (n m : Alternative) → Contains (note_at P notes p) n → Contains (note_at P notes q) m → (way : Way) →
    CanStep P (AreNotedBy P p n q m) q.actor.0 way Anywhere →
    (k : Alternative) × Contains (note_at P notes p) k × AlwaysLeaves P (AreNotedBy P p n q m) q.actor.0 way (HoldsOne k p.actor.0)
