-- What a state shows of a part that fails at a point.
--
-- | word               | meaning                                                                               |
-- |--------------------|---------------------------------------------------------------------------------------|
-- | ShowsGoes          | steps from a point by one row, none of which leaves what the next note says            |
-- | ShowsSpoiled       | steps of another actor by one row, which leave nothing of what a note says             |
-- | ShowsOutOfRange    | a state with both notes, from which another actor puts a variable out of its range     |
-- | ShowsGuard         | a state with a point's note in which the guard of an end doesn't hold of its actor     |
-- | Shows              | the witness shows that the part isn't kept at the point                                |
-- | IsWitness          | the witness shows what the verdict says                                                |
use Rattle.std.specs.Prelude.{◌≡◌, ℕ, List, Option, None, Some, All}
use Rattle.fr_program.specs.declared.ids.Point.{Point}
use Rattle.fr_program.specs.declared.ids.Side.TheVariants.{Before}
use Rattle.fr_program.specs.declared.instr.End.{End}
use Rattle.fr_program.specs.Program.{Program}
use Rattle.fr_rules.specs.State.{State, start}
use Rattle.fr_rules.specs.Rule.{Breach}
use Rattle.fr_rules.specs.declared.rules.Rule.TheVariants.{InRange}
use Rattle.fr_rules.specs.declared.way.Way.{Way}
use Rattle.fr_notes.specs.Note.{Alternative, Holds}
use Rattle.fr_notes.specs.Noted.{note_at, IsAt, Noted, NotedBy}
use Rattle.std.specs.Prelude.{Contains}
use Rattle.fr_ends.specs.Guard.{Guard}
use Rattle.fr_ends.specs.Certificate.{Certificate, HasGuard, guard_for}
use Rattle.fr_judge.specs.declared.part.Part.{Part as ToldPart}
use Rattle.fr_judge.specs.declared.part.Part.TheVariants.{Entry, Rule as RulePart, Goes, Guard as GuardPart, Near, Spoiled}
use Rattle.fr_judge.specs.declared.part.Verdict.{Verdict}
use Rattle.fr_judge.specs.declared.part.Verdict.TheVariants.{Yes, No}
pub use Rattle.fr_witness.specs.declared.evidence.Witness.{Witness}
use Rattle.fr_witness.specs.declared.evidence.Witness.TheVariants.{Start, Breaks, Leaves, Unguarded, Both}
use Rattle.fr_witness.specs.Shown.{Taken, IsTaken, UndoesNote}

-- by one alternative of p's note and one row, each step begins at p with that alternative and ends at t, and for each
-- alternative of t's note one of the steps undoes it
abbrev pub ShowsGoes : Program → Certificate → Point → Point → List Taken → Type 0
ShowsGoes P C p t steps =
    (n : Alternative) × (way : Way) × Contains (note_at P C.notes p) n
    × All (λ s. (s.actor ≡ p.actor) × NotedBy P p n s.before × IsTaken P way s × IsAt s.after t) steps
    × UndoesNote p.actor.0 (note_at P C.notes t) steps

-- by one alternative of p's note and one of q's, and one row, each step of q's actor begins with both at their points,
-- and for each alternative of p's note one of the steps undoes it
abbrev pub ShowsSpoiled : Program → Certificate → Point → Point → List Taken → Type 0
ShowsSpoiled P C p q steps =
    (n m : Alternative) × (way : Way) × Contains (note_at P C.notes p) n × Contains (note_at P C.notes q) m
    × All (λ s. (s.actor ≡ q.actor) × NotedBy P p n s.before × NotedBy P q m s.before × IsTaken P way s) steps
    × UndoesNote p.actor.0 (note_at P C.notes p) steps

-- in this state both points have their notes, and q's actor is before a `set` whose value is out of the declared range of
-- its variable (before a `set` is the only place where rule 12 is breached before an instruction); each range of a note
-- lies within the declared one, so after this step, which q's actor has, no alternative of p's note holds
abbrev pub ShowsOutOfRange : Program → Certificate → Point → Point → State → Type 0
ShowsOutOfRange P C p q S = (q.side ≡ Before) × Noted P C.notes p S × Noted P C.notes q S × Breach P S InRange q.actor.0

-- no guard is listed for the end, or in this state, in which the point's actor is there with its note, it doesn't hold
abbrev pub ShowsGuard : Program → Certificate → Point → ℕ → End → Option State → Type 0
ShowsGuard P C p buffer end None = guard_for C.ends buffer end ≡ None
ShowsGuard P C p buffer end (Some S) =
    Noted P C.notes p S × ((g : Guard) → guard_for C.ends buffer end ≡ Some g → HasGuard g p.actor.0 S → ⊥)

-- the witness shows that the part isn't kept at the point
abbrev pub Shows : Program → Certificate → Point → ToldPart → Witness → Type 0
Shows P C p Entry (Start S) = (S ≡ start P) × (Holds (note_at P C.notes p) p.actor.0 S → ⊥)
Shows P C p (RulePart rule) (Breaks S) = Noted P C.notes p S × Breach P S rule p.actor.0
Shows P C p (Goes t) (Leaves steps) = ShowsGoes P C p t steps.items
Shows P C p (GuardPart e) (Unguarded S) = ShowsGuard P C p e.buffer.0 e.end S
Shows P C p (Near q) (Both S) = Noted P C.notes p S × Noted P C.notes q S
Shows P C p (Spoiled q) (Leaves steps) = ShowsSpoiled P C p q steps.items
Shows P C p (Spoiled q) (Breaks S) = ShowsOutOfRange P C p q S
Shows P C p part witness = ⊥

-- the witness shows what the verdict says; a yes has none
abbrev pub IsWitness : Program → Certificate → Verdict → Option Witness → Type 0
IsWitness P C verdict None = Unit {0}
IsWitness P C Yes (Some witness) = ⊥
IsWitness P C (No p part) (Some witness) = Shows P C p part witness
