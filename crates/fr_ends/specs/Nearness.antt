-- For private clauses: a delete of an object while another actor is inside a call on it.
--
-- | word                  | meaning                                                                     |
-- |-----------------------|-----------------------------------------------------------------------------|
-- | used_inside           | the object of the call that an actor is inside, at a side of an instruction |
-- | are_same              | both are there, and are one object                                          |
-- | deletes_used          | one point's instruction deletes the object that the other point is inside   |
use Rattle.std.specs.Prelude.{Option, Some, Bool, false, nat_eq}
use Rattle.std.specs.Option.{option_map}
use Rattle.fr_program.specs.declared.ids.ObjId.{ObjId}
use Rattle.fr_program.specs.declared.ids.Point.{Point}
use Rattle.fr_program.specs.declared.ids.Side.{Side}
use Rattle.fr_program.specs.declared.instr.Instr.{Instr}
use Rattle.fr_program.specs.Program.{Program}
use Rattle.fr_program.specs.Lookup.{instr_of}
use Rattle.fr_ends.specs.Guarded.{called_inside, deleted_before}

-- the object of the call that an actor is inside, at this side of this instruction
abbrev pub used_inside : Side → Option Instr → Option ObjId
used_inside side i = option_map (λ call. call.object) (called_inside side i)

-- both are there, and are one object
abbrev pub are_same : Option ObjId → Option ObjId → Bool
are_same (Some one) (Some other) = nat_eq one.0 other.0
are_same one other = false

-- the instruction of q deletes the object of the call that p is inside
abbrev pub deletes_used : Program → Point → Point → Bool
deletes_used P p q = are_same (used_inside p.side (instr_of P p)) (deleted_before q.side (instr_of P q))
