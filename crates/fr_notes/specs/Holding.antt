-- What is known of one object, for the actor that moves and for another actor at once. `taken_by`, `given_by`,
-- `worked_by`, `can_fail_on` and `other_claim` are for private clauses; the other words are for the public contracts of
-- `Holding`, `Known` and `is_given_unheld`.
--
-- | word                      | meaning                                                                        |
-- |---------------------------|--------------------------------------------------------------------------------|
-- | holding_of                | two claims, of the mover and of the other actor, put together                  |
-- | others_claim, holding     | the other actor's claim of an object; what is known of the object              |
-- | mover_claim, other_claim  | what each of the two can claim of it                                           |
-- | can_be_dead               | whether it can be dead                                                         |
-- | living                    | what is known of it where it is live                                           |
-- | taken_by, given_by        | what a take or a give by the mover makes of it                                 |
-- | worked_by, can_fail_on    | what an act that works makes of it; whether an act can fail                    |
-- | is_given_unheld           | a give of a mutex that the mover isn't known to hold                           |
use Rattle.std.specs.Prelude.{ℕ, ◌+◌, ◌-◌, Option, None, Some, Bool, true, false, nat_le, if◌then◌else◌}
use Rattle.fr_program.specs.declared.instr.ObjectCall.{ObjectCall}
use Rattle.fr_program.specs.declared.instr.Act.{Act}
use Rattle.fr_program.specs.declared.instr.Act.TheVariants.{Try, Move}
use Rattle.fr_program.specs.declared.instr.Attempt.TheVariants.{Take, Give, Reset}
use Rattle.fr_program.specs.declared.instr.BufferKind.TheVariants.{Stream as OfStream, Message as OfMessage}
use Rattle.fr_program.specs.declared.instr.Timing.{Timing}
use Rattle.fr_program.specs.declared.parts.Kind.{Kind}
use Rattle.fr_program.specs.declared.parts.Kind.TheVariants.{Binary, Counting, Mutex, Recursive}
use Rattle.fr_rules.specs.Rule.{given_kind}
use Rattle.fr_rules.specs.Step.{can_time_out}
pub use Rattle.fr_notes.specs.declared.holding.Holding.{Holding}
pub use Rattle.fr_notes.specs.declared.holding.Holding.TheVariants.{Unheld, Living, Lifeless, Own, Others}
use Rattle.fr_notes.specs.Note.{Claim, NotHeld, Alive, Gone, HeldTimes, claim_of}
use Rattle.fr_notes.specs.Known.{Known}

-- the mover's claim and the other actor's, put together
abbrev pub holding_of : Claim → Claim → Holding
holding_of (HeldTimes count) other = Own count
holding_of claim (HeldTimes count) = Others count
holding_of Gone other = Lifeless
holding_of claim Gone = Lifeless
holding_of Alive other = Living
holding_of NotHeld Alive = Living
holding_of NotHeld NotHeld = Unheld

-- the other actor's claim of an object; where none is looked at, nothing is known of another one
abbrev pub others_claim : Known → ℕ → Claim
others_claim k o = elim k.other [ None ↦ NotHeld | Some n ↦ claim_of n o ]

-- what is known of an object
abbrev pub holding : Known → ℕ → Holding
holding k o = holding_of (claim_of k.mover o) (others_claim k o)

-- what the mover can claim
abbrev pub mover_claim : Holding → Claim
mover_claim Unheld = NotHeld
mover_claim Living = Alive
mover_claim Lifeless = Gone
mover_claim (Own count) = HeldTimes count
mover_claim (Others count) = Alive

-- what the other actor can claim
abbrev pub other_claim : Holding → Claim
other_claim Unheld = NotHeld
other_claim Living = Alive
other_claim Lifeless = Gone
other_claim (Own count) = Alive
other_claim (Others count) = HeldTimes count

-- whether the object can be dead
abbrev pub can_be_dead : Holding → Bool
can_be_dead Unheld = true
can_be_dead Lifeless = true
can_be_dead known = false

-- what is known of the object where it is live
abbrev pub living : Holding → Option Holding
living Unheld = Some Living
living Living = Some Living
living Lifeless = None
living (Own count) = Some (Own count)
living (Others count) = Some (Others count)

-- what a take that works makes of a live object
abbrev pub taken_by : Kind → Holding → Option Holding
taken_by Mutex Living = Some (Own 1)
taken_by Recursive Living = Some (Own 1)
taken_by Recursive (Own count) = Some (Own (count + 1))
taken_by Binary Living = Some Living
taken_by (Counting size first) Living = Some Living
taken_by kind known = None

-- what a give that works makes of a live object
abbrev pub given_by : Kind → Holding → Option Holding
given_by Mutex (Own count) = Some Living
given_by Recursive (Own count) = Some (if nat_le count 1 then Living else Own (count - 1))
given_by Binary Living = Some Living
given_by (Counting size first) Living = Some Living
given_by kind known = None

-- what an act that works makes of a live object: all but takes and gives leave what is known of it
abbrev pub worked_by : Kind → Act → Holding → Option Holding
worked_by kind (Try (Take form) e) known = taken_by kind known
worked_by kind (Try (Give form) e) known = given_by kind known
worked_by kind act known = Some known

-- whether a give to this kind of object can be refused, since there is no room
abbrev pub can_be_full : Kind → Bool
can_be_full Binary = true
can_be_full (Counting size first) = true
can_be_full kind = false

-- whether an act on a live object of this kind can fail
abbrev pub can_fail_on : Kind → Timing → Act → Bool
can_fail_on kind timing (Try (Give form) e) = can_be_full kind
can_fail_on kind timing (Try (Reset buffer) e) = true
can_fail_on kind timing (Try attempt e) = can_time_out timing
can_fail_on kind timing (Move end OfStream n result) = false
can_fail_on kind timing (Move end OfMessage n result) = true

-- whether the second kind, if there is one, is the first, of a mutex
abbrev pub is_mutex : Kind → Option Kind → Bool
is_mutex Mutex (Some Mutex) = true
is_mutex Recursive (Some Recursive) = true
is_mutex kind given = false

-- whether the call is a give of a mutex, in the form that suits it, which the mover isn't known to hold
abbrev pub is_given_unheld : Kind → ObjectCall → Holding → Bool
is_given_unheld kind call (Own count) = false
is_given_unheld kind call known = is_mutex kind (given_kind call.act call.timing)
