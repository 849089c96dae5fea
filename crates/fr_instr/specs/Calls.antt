-- The calls: the table of their rows, and what a call is made of.
--
-- | word                     | meaning                                                                                         |
-- |--------------------------|-------------------------------------------------------------------------------------------------|
-- | Row, table               | a call's name, what it is, its places and what may be written beside it; the rows of the code's `CALLS` |
-- | row_named, row_for       | the row of the call with a name, the row of what a call is                                      |
-- | may_fail, may_answer     | an `else` may follow; a `v =` may be before                                                     |
-- | made                     | the call that is this, with what its line gives                                                 |
-- | verb_of, given_of        | what a call is; what its line gives                                                             |
-- | put                      | what is given in one place, beside what is given in others                                      |
use Rattle.std.specs.Prelude.{ℕ, List, [], Bool, true, false, Option, map, unwrap_or}
use Rattle.std.specs.List.{find}
use Rattle.std.specs.Str.{bytes_eq}
use denote.Ref.{Bor}
use Rattle.fr_instr.specs.contracts.call.VerbPartialEq.TheImpl as verb_eq
use Rattle.fr_instr.specs.declared.call.TheConstants.{CALLS}
use Rattle.fr_instr.specs.declared.call.Slot.{Slot}
use Rattle.fr_instr.specs.declared.call.Slot.TheVariants as place
use Rattle.fr_instr.specs.declared.call.Tail.{Tail}
use Rattle.fr_instr.specs.declared.call.Tail.TheVariants.{Nothing, Else, Into}
use Rattle.fr_instr.specs.declared.call.When.{When}
use Rattle.fr_instr.specs.declared.call.When.TheVariants as at
use Rattle.fr_instr.specs.declared.call.Deed.{Deed}
use Rattle.fr_instr.specs.declared.call.Deed.TheVariants.{QueueSend, QueueReceive, Take, Give, Reset, Move}
use Rattle.fr_instr.specs.declared.call.Verb.{Verb}
use Rattle.fr_instr.specs.declared.call.Verb.TheVariants.{Enter, Exit, SuspendAll, ResumeAll, Yield, Delay, DeleteSelf, Create, Delete, On}
use Rattle.fr_instr.specs.declared.given.Given.{Given}
use Rattle.fr_instr.specs.declared.given.TheConstants.{NOTHING}
use Rattle.fr_program.specs.declared.instr.BlockTime.{BlockTime}
use Rattle.fr_program.specs.declared.instr.Timing.{Timing}
use Rattle.fr_program.specs.declared.instr.Timing.TheVariants as timing
use Rattle.fr_program.specs.declared.instr.Attempt.TheVariants as attempt
use Rattle.fr_program.specs.declared.instr.Act.{Act}
use Rattle.fr_program.specs.declared.instr.Act.TheVariants as act
use Rattle.fr_program.specs.declared.instr.Call.{Call}
use Rattle.fr_program.specs.declared.instr.Call.TheVariants as call

-- ---- the table

-- a call's name, what it is, the places of its arguments, and what may be written beside it
pub record Row : Type 0 where
  pub name : List ℕ
  pub verb : Verb
  pub places : List Slot
  pub tail : Tail

-- the row that one in code means
abbrev pub row_view : (Bor (List ℕ) × Verb × Bor (List Slot) × Tail) → Row
row_view r = record { name = r.0.now; verb = r.1; places = r.2.now; tail = r.3 }

-- the table of the calls, which the code has as a constant
unfoldable pub table : List Row
table = map (λ r. record { name = r.0.now; verb = r.1; places = r.2.now; tail = r.3 }) CALLS

-- the row of the call with this name
abbrev pub row_named : List ℕ → Option Row
row_named name = find (λ r. bytes_eq r.name name) table

-- whether two calls are the same, but for their arguments
abbrev pub is_same : Verb → Verb → Bool
is_same = (verb_eq.ghosts).eq

-- the row of the call that is this, if the grammar has one
abbrev pub row_for : Verb → Option Row
row_for verb = find (λ r. is_same r.verb verb) table

-- a row without a name
abbrev pub no_row : Row
no_row = record { name = []; verb = Yield; places = []; tail = Nothing }

-- the same, or a row without a name
abbrev pub row_of : Verb → Row
row_of verb = unwrap_or (row_for verb) no_row

-- whether an `else` may follow the call
abbrev pub may_fail : Tail → Bool
may_fail Else = true
may_fail tail = false

-- whether a `v =` may be before the call
abbrev pub may_answer : Tail → Bool
may_answer Into = true
may_answer tail = false

-- ---- a call from what it is and what its line gives

-- the timing of an object call
abbrev pub timing_made : When → Given → Timing
timing_made at.Now g = timing.Now
timing_made at.FromIsr g = timing.FromIsr
timing_made at.Waits g = timing.Waits g.time

-- what an object call does
abbrev pub act_made : Deed → Given → Act
act_made QueueSend g = act.Try (attempt.QueueSend g.operand) g.or_else
act_made QueueReceive g = act.Try (attempt.QueueReceive g.variable) g.or_else
act_made (Take form) g = act.Try (attempt.Take form) g.or_else
act_made (Give form) g = act.Try (attempt.Give form) g.or_else
act_made (Reset kind) g = act.Try (attempt.Reset kind) g.or_else
act_made (Move side kind) g = act.Move side kind g.bytes g.into

-- the call that is this, with what its line gives
abbrev pub made : Verb → Given → Call
made (Enter form) g = call.EnterCritical form
made (Exit form) g = call.ExitCritical form
made SuspendAll g = call.SuspendAll
made ResumeAll g = call.ResumeAll
made Yield g = call.Yield
made Delay g = call.Delay g.ticks
made DeleteSelf g = call.DeleteSelf
made (Create kind) g = call.Create kind g.object g.or_else
made (Delete kind) g = call.Delete kind g.object
made (On when deed) g = call.On (record { object = g.object; timing = timing_made when g; act = act_made deed g })

-- ---- and back

-- when an object call answers
abbrev pub when_of : Timing → When
when_of timing.Now = at.Now
when_of timing.FromIsr = at.FromIsr
when_of (timing.Waits t) = at.Waits

-- what an object call does, without its arguments
abbrev pub deed_of : Act → Deed
deed_of (act.Try (attempt.QueueSend value) e) = QueueSend
deed_of (act.Try (attempt.QueueReceive x) e) = QueueReceive
deed_of (act.Try (attempt.Take form) e) = Take form
deed_of (act.Try (attempt.Give form) e) = Give form
deed_of (act.Try (attempt.Reset kind) e) = Reset kind
deed_of (act.Move side kind n v) = Move side kind

-- what a call is
abbrev pub verb_of : Call → Verb
verb_of (call.EnterCritical form) = Enter form
verb_of (call.ExitCritical form) = Exit form
verb_of call.SuspendAll = SuspendAll
verb_of call.ResumeAll = ResumeAll
verb_of call.Yield = Yield
verb_of (call.Delay n) = Delay
verb_of call.DeleteSelf = DeleteSelf
verb_of (call.Create kind o e) = Create kind
verb_of (call.Delete kind o) = Delete kind
verb_of (call.On c) = On (when_of c.timing) (deed_of c.act)

-- the block time, if the call has one
abbrev pub time_of : Timing → BlockTime
time_of (timing.Waits t) = t
time_of t = NOTHING.time

-- what an object call's line gives but for its object and its block time
abbrev pub act_given : Act → Given
act_given (act.Try (attempt.QueueSend value) e) = record NOTHING { operand = value; or_else = e }
act_given (act.Try (attempt.QueueReceive x) e) = record NOTHING { variable = x; or_else = e }
act_given (act.Try a e) = record NOTHING { or_else = e }
act_given (act.Move side kind n v) = record NOTHING { bytes = n; into = v }

-- what the line of a call gives
abbrev pub given_of : Call → Given
given_of (call.Delay n) = record NOTHING { ticks = n }
given_of (call.Create kind o e) = record NOTHING { object = o; or_else = e }
given_of (call.Delete kind o) = record NOTHING { object = o }
given_of (call.On c) = record (act_given c.act) { object = c.object; time = time_of c.timing }
given_of c = NOTHING

-- g with what h has in this place
abbrev pub put : Slot → Given → Given → Given
put place.Object h g = record g { object = h.object }
put place.Operand h g = record g { operand = h.operand }
put place.Variable h g = record g { variable = h.variable }
put place.Length h g = record g { bytes = h.bytes }
put place.Time h g = record g { time = h.time }
put place.Ticks h g = record g { ticks = h.ticks }
put place.Null h g = g
