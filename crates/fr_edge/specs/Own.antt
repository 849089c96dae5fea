-- A point's own obligations: the entry, the rules, and where its steps go.
use Rattle.std.specs.Prelude.{◌≡◌, List, Some, Bool, true, false, IsTrue, Contains}
use Rattle.fr_program.specs.declared.instr.Instr.{Instr}
use Rattle.fr_program.specs.declared.instr.Instr.TheVariants.{Call as Calls}
use Rattle.fr_program.specs.declared.instr.Call.TheVariants.{Delete}
use Rattle.fr_program.specs.declared.ids.Point.{Point}
use Rattle.fr_program.specs.declared.ids.Side.TheVariants.{Before}
use Rattle.fr_program.specs.Program.{Program}
use Rattle.fr_program.specs.Lookup.{IsPoint, instr_of}
use Rattle.fr_rules.specs.State.{State, start}
use Rattle.fr_rules.specs.declared.rules.Rule.{Rule}
use Rattle.fr_rules.specs.declared.rules.Rule.TheVariants.{OneWriter, OneReader, LifeInOrder}
use Rattle.fr_rules.specs.Rule.{Breach}
use Rattle.fr_rules.specs.declared.way.Way.{Way}
use Rattle.fr_rules.specs.Step.{CanStep, AlwaysLeaves}
use Rattle.fr_notes.specs.Note.{Alternative, Note, HoldsOne, Holds}
use Rattle.fr_notes.specs.Noted.{note_at, IsAt, Noted, NotedBy}

-- where an actor begins, its note holds at the start
abbrev pub Entry : Program → List Note → Point → Type 0
Entry P notes p = p.pc ≡ 0 → p.side ≡ Before → Holds (note_at P notes p) p.actor.0 (start P)

-- whether a point keeps the rule by itself: all rules but one writer, one reader, and no delete while others are inside
abbrev pub is_own : Instr → Rule → Bool
is_own i OneWriter = false
is_own i OneReader = false
is_own (Calls (Delete kind o)) LifeInOrder = false
is_own i rule = true

-- in no state with the point's note does its actor breach the rule, if that is one for the point to keep by itself
abbrev pub KeepsRule : Program → List Note → Point → Rule → Type 0
KeepsRule P notes p rule =
    (i : Instr) → instr_of P p ≡ Some i → IsTrue (is_own i rule) →
    (S : State) → Noted P notes p S → Breach P S rule p.actor.0 → ⊥

-- For each alternative of the point's note, and each row by which some state with that alternative steps to t, one
-- alternative of t's note is left by every such step. A step to the end of the task owes nothing.
abbrev pub Goes : Program → List Note → Point → Point → Type 0
Goes P notes p t =
    IsPoint P t → t.actor ≡ p.actor → (n : Alternative) → Contains (note_at P notes p) n → (way : Way) →
    CanStep P (NotedBy P p n) p.actor.0 way (λ S'. IsAt S' t) →
    (m : Alternative) × Contains (note_at P notes t) m × AlwaysLeaves P (NotedBy P p n) p.actor.0 way (λ S'. IsAt S' t → HoldsOne m p.actor.0 S')
