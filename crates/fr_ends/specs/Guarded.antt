-- What a point inside an object call owes: the guards of its ends, and that no delete of the object is near.
use Rattle.std.specs.Prelude.{◌≡◌, ◌≢◌, ℕ, List, Option, None, Some, IsTrue}
use Rattle.fr_program.specs.declared.instr.Instr.{Instr}
use Rattle.fr_program.specs.declared.instr.Instr.TheVariants.{Call as Calls}
use Rattle.fr_program.specs.declared.instr.Call.TheVariants.{Delete, On}
use Rattle.fr_program.specs.declared.instr.ObjectCall.{ObjectCall}
use Rattle.fr_program.specs.declared.ids.ObjId.{ObjId}
use Rattle.fr_program.specs.declared.ids.Point.{Point}
use Rattle.fr_program.specs.declared.ids.Side.{Side}
use Rattle.fr_program.specs.declared.ids.Side.TheVariants.{Before, Inside}
use Rattle.fr_program.specs.Program.{Program}
use Rattle.fr_program.specs.Lookup.{IsPoint, instr_of}
use Rattle.fr_rules.specs.State.{State}
use Rattle.fr_program.specs.declared.instr.End.{End}
use Rattle.fr_rules.specs.Rule.{is_at_end}
use Rattle.fr_notes.specs.Note.{Note}
use Rattle.fr_notes.specs.Noted.{Noted}
use Rattle.fr_ends.specs.Guard.{Guard}
use Rattle.fr_ends.specs.Certificate.{Certificate, HasGuard, guard_for}

-- the object call that an actor is inside, at this side of this instruction
abbrev pub called_inside : Side → Option Instr → Option ObjectCall
called_inside Inside (Some (Calls (On call))) = Some call
called_inside side i = None

-- the object that is deleted from this side of this instruction
abbrev pub deleted_before : Side → Option Instr → Option ObjId
deleted_before Before (Some (Calls (Delete kind o))) = Some o
deleted_before side i = None

-- the point is inside this call, on the object with this number
abbrev pub IsInsideOn : Program → Point → ℕ → ObjectCall → Type 0
IsInsideOn P p o call = (call.object.0 ≡ o) × (called_inside p.side (instr_of P p) ≡ Some call)

-- the point is before a delete of the object with this number
abbrev pub Deletes : Program → Point → ℕ → Type 0
Deletes P q o = (n : ObjId) × (n.0 ≡ o) × (deleted_before q.side (instr_of P q) ≡ Some n)

-- the point's note implies the guard: it holds of the point's actor in every state with the note
abbrev pub ImpliesGuard : Program → List Note → Point → Guard → Type 0
ImpliesGuard P notes p g = (S : State) → Noted P notes p S → HasGuard g p.actor.0 S

-- where the point is inside a call at this end of this buffer, a guard is listed for the end, and the point's note
-- implies it
abbrev pub Guarded : Program → Certificate → Point → ℕ → End → Type 0
Guarded P C p buffer end =
    (call : ObjectCall) → IsInsideOn P p buffer call → IsTrue (is_at_end end call.act) →
    (g : Guard) × (guard_for C.ends buffer end ≡ Some g) × ImpliesGuard P C.notes p g

-- a delete at q is no danger to p: p isn't inside a call on the object that q deletes, or no state has both notes.
-- Between points of one actor it is none
abbrev pub Near : Program → List Note → Point → Point → Type 0
Near P notes p q =
    IsPoint P q → q.actor ≢ p.actor → (o : ℕ) (call : ObjectCall) → IsInsideOn P p o call → Deletes P q o →
    (S : State) → Noted P notes p S → Noted P notes q S → ⊥
