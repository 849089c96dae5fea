-- Worked steps: the step table on small states, a row each. A slip in the table would show here.
--
-- Actor 0 is at its instruction 0 (or inside it), one variable x has 0 to 9, there is one object, and another task, actor
-- 1, stands before its own first instruction. Instruction 1 is the next one, and 2 is where an `else` or an `if` leads.
--
-- | word                         | meaning                                                                     |
-- |------------------------------|-----------------------------------------------------------------------------|
-- | beside, of_one               | the application: actor 0's code, the object's kind, actor 1's instruction   |
-- | seen                         | a state: actor 0's place, x, the object, the critical section, suspension   |
-- | before, inside, next, other  | the same outside of the critical section, by actor 0's place                |
-- | Steps                        | actor 0 steps with this choice                                              |
-- | WorkedInstrs, WorkedEnds     | the rows of instructions and one-step calls, of the ends of object calls    |
-- | HasNoStep, WorkedStops       | no choice leads anywhere; where that is so                                  |
-- | HasNoChoice, WorkedBounds    | a choice leads nowhere; choices that are out of a step's bounds             |
-- | WorkedComparisons            | the six comparisons, of 1, 2 and 3 with 2                                   |
-- | WorkedRun                    | three states of an interrupt, which returns to its first instruction        |
use Rattle.std.specs.Prelude.{◌≡◌, ℕ, ℤ, pos, List, [], ◌∷◌, Option, None, Some, Bool, true, false}
use Rattle.fr_program.specs.declared.instr.Instr.{Instr}
use Rattle.fr_program.specs.declared.instr.Instr.TheVariants.{Set, If, Goto, Pick, Call as Calls, Return}
use Rattle.fr_program.specs.declared.instr.Call.TheVariants.{EnterCritical, ExitCritical, SuspendAll, ResumeAll, Delay, DeleteSelf, Create, Delete, On}
use Rattle.fr_program.specs.declared.instr.Form.TheVariants.{Task as InTask}
use Rattle.fr_program.specs.declared.instr.ObjectCall.{ObjectCall}
use Rattle.fr_program.specs.declared.instr.Act.{Act}
use Rattle.fr_program.specs.declared.instr.Act.TheVariants.{Try, Move}
use Rattle.fr_program.specs.declared.instr.Attempt.{Attempt}
use Rattle.fr_program.specs.declared.instr.Attempt.TheVariants.{QueueSend, QueueReceive, Take, Give, Reset}
use Rattle.fr_program.specs.declared.instr.SemaphoreForm.TheVariants.{Plain as PlainForm, Recursive as RecursiveForm}
use Rattle.fr_program.specs.declared.instr.End.TheVariants.{Writer, Reader}
use Rattle.fr_program.specs.declared.instr.BufferKind.TheVariants.{Stream as OfStream, Message as OfMessage}
use Rattle.fr_program.specs.declared.instr.CreatedKind.TheVariants.{Stream as MakesStream, Counting as MakesCounting}
use Rattle.fr_program.specs.declared.instr.DeletedKind.TheVariants.{Stream as DropsStream}
use Rattle.fr_program.specs.declared.instr.Timing.{Timing}
use Rattle.fr_program.specs.declared.instr.Timing.TheVariants.{Now, Waits, FromIsr}
use Rattle.fr_program.specs.declared.instr.BlockTime.{BlockTime}
use Rattle.fr_program.specs.declared.instr.BlockTime.TheVariants.{Ticks, MaxDelay}
use Rattle.fr_program.specs.declared.instr.Operand.TheVariants.{Number, Variable}
use Rattle.fr_program.specs.declared.instr.Operator.TheVariants.{Plus}
use Rattle.fr_program.specs.declared.instr.Comparison.{Comparison}
use Rattle.fr_program.specs.declared.instr.Comparison.TheVariants.{Less, AtMost, Greater, AtLeast, Equal, NotEqual}
use Rattle.fr_program.specs.declared.ids.VarId.{VarId}
use Rattle.fr_program.specs.declared.ids.ObjId.{ObjId}
use Rattle.fr_program.specs.declared.ids.Side.TheVariants.{Before, Inside}
use Rattle.fr_program.specs.declared.parts.Kind.{Kind}
use Rattle.fr_program.specs.declared.parts.Kind.TheVariants.{Queue, Binary, Counting, Mutex, Recursive, Stream, Message}
use Rattle.fr_program.specs.declared.parts.ActorKind.{ActorKind}
use Rattle.fr_program.specs.declared.parts.ActorKind.TheVariants.{Task, Interrupt}
use Rattle.fr_program.specs.Program.{Program}
use Rattle.fr_rules.specs.State.{State, Place, At, Done, Content, Dead, Values, Count, Free, Held, Bytes, Lengths}
use Rattle.fr_rules.specs.Step.{Step, compare}
use Rattle.fr_rules.specs.Run.{IsRun}

-- the variable
abbrev pub x : VarId
x = record { 0 = 0 }

-- the object
abbrev pub thing : ObjId
thing = record { 0 = 0 }

-- actor 0 of this kind with this code beside task 1 with that instruction
abbrev pub beside : ActorKind → Kind → List Instr → Instr → Program
beside actor kind code other = record {
  variables = record { name = []; lo = pos 0; hi = pos 9; init = pos 0; owner = None } ∷ [];
  objects = record { name = []; kind = kind; live = true } ∷ [];
  actors = record { name = []; kind = actor; code = code }
      ∷ record { name = []; kind = Task; code = other ∷ Goto 0 ∷ [] } ∷ [];
}

-- a task with this first instruction, beside one that only goes round
abbrev pub of_one : Kind → Instr → Program
of_one kind i = beside Task kind (i ∷ Goto 0 ∷ Goto 0 ∷ []) (Goto 0)

-- a state, by actor 0's place, x, the object, who is in the critical section, and actor 0's suspension depth
abbrev pub seen : Place → ℤ → Content → Option (ℕ × ℕ) → ℕ → State
seen place v content critical suspended = record {
  places = place ∷ At 0 Before ∷ [];
  values = v ∷ [];
  objects = content ∷ [];
  critical = critical;
  suspended = suspended ∷ 0 ∷ [];
}

-- actor 0 before its instruction, outside of the critical section
abbrev pub before : ℤ → Content → State
before v content = seen (At 0 Before) v content None 0

-- actor 0 inside its instruction
abbrev pub inside : ℤ → Content → State
inside v content = seen (At 0 Inside) v content None 0

-- actor 0 before the next instruction
abbrev pub next : ℤ → Content → State
next v content = seen (At 1 Before) v content None 0

-- actor 0 before the instruction that an `else` or an `if` leads to
abbrev pub other : ℤ → Content → State
other v content = seen (At 2 Before) v content None 0

-- actor 0, a task with this instruction and an object of this kind, steps with this choice
abbrev pub Steps : Kind → Instr → State → ℤ → State → Type 0
Steps kind i S c S' = Step (of_one kind i) S 0 c S'

-- the call on the object that does this
abbrev pub on_thing : Timing → Act → ObjectCall
on_thing timing act = record { object = thing; timing = timing; act = act }

-- the same as an instruction
abbrev pub call : Timing → Act → Instr
call timing act = Calls (On (on_thing timing act))

-- the call on the object that tries this, with `else 2`
abbrev pub tries : Timing → Attempt → Instr
tries timing attempt = call timing (Try attempt (Some 2))

-- a block time of ten ticks
abbrev pub ten : BlockTime
ten = Ticks 10

-- `set x = x + 1`
abbrev pub add_one : Instr
add_one = Set x (Variable x) Plus (Number (pos 1))

-- `if x < 5 goto 2`
abbrev pub if_below : Instr
if_below = If (Variable x) Less (Number (pos 5)) 2

-- `taskENTER_CRITICAL()`
abbrev pub enter : Instr
enter = Calls (EnterCritical InTask)

-- `taskEXIT_CRITICAL()`
abbrev pub exit : Instr
exit = Calls (ExitCritical InTask)

-- `xStreamBufferCreate(thing) else 2`
abbrev pub create : Instr
create = Calls (Create MakesStream thing (Some 2))

-- `xSemaphoreCreateCounting(thing) else 2`
abbrev pub create_counting : Instr
create_counting = Calls (Create MakesCounting thing (Some 2))

-- `vStreamBufferDelete(thing)`
abbrev pub delete : Instr
delete = Calls (Delete DropsStream thing)

-- `xSemaphoreTake(thing, time) else 2`
abbrev pub take : BlockTime → Instr
take time = tries (Waits time) (Take PlainForm)

-- `xSemaphoreTakeFromISR(thing) else 2`
abbrev pub take_at_once : Instr
take_at_once = tries FromIsr (Take PlainForm)

-- `xSemaphoreTakeRecursive(thing, portMAX_DELAY)`
abbrev pub take_recursive : Instr
take_recursive = call (Waits MaxDelay) (Try (Take RecursiveForm) None)

-- `xSemaphoreGive(thing) else 2`
abbrev pub give : Instr
give = tries Now (Give PlainForm)

-- `xSemaphoreGiveRecursive(thing)`
abbrev pub give_recursive : Instr
give_recursive = call Now (Try (Give RecursiveForm) None)

-- `xQueueSend(thing, x, 10) else 2`
abbrev pub queue_send : Instr
queue_send = tries (Waits ten) (QueueSend (Variable x))

-- `xQueueReceive(thing, x, 10) else 2`
abbrev pub queue_receive : Instr
queue_receive = tries (Waits ten) (QueueReceive x)

-- `x = xStreamBufferSend(thing, 8, 10)`
abbrev pub stream_send : Instr
stream_send = call (Waits ten) (Move Writer OfStream 8 (Some x))

-- `x = xStreamBufferReceive(thing, 8, 10)`
abbrev pub stream_receive : Instr
stream_receive = call (Waits ten) (Move Reader OfStream 8 (Some x))

-- `xMessageBufferSend(thing, 8, 10)`
abbrev pub message_send : Instr
message_send = call (Waits ten) (Move Writer OfMessage 8 None)

-- `x = xMessageBufferReceive(thing, 8, 10)`
abbrev pub message_receive : Instr
message_receive = call (Waits ten) (Move Reader OfMessage 8 (Some x))

-- `xQueueReceiveFromISR(thing, x) else 2`
abbrev pub queue_receive_at_once : Instr
queue_receive_at_once = tries FromIsr (QueueReceive x)

-- `xStreamBufferReset(thing) else 2`
abbrev pub reset : Instr
reset = tries Now (Reset OfStream)

-- a queue of 2 values from 0 to 9
abbrev pub queue : Kind
queue = Queue (pos 2) (pos 0) (pos 9)

-- a stream buffer of 8 bytes
abbrev pub stream : Kind
stream = Stream (pos 8)

-- a message buffer of 16 bytes
abbrev pub message : Kind
message = Message (pos 16)

-- instructions, and calls of one step
pub record WorkedInstrs : Type 0 where
  pub set_adds : Steps stream add_one (before (pos 4) Dead) (pos 0) (next (pos 5) Dead)
  pub set_leaves_the_range : Steps stream add_one (before (pos 9) Dead) (pos 0) (next (pos 10) Dead)
  pub if_is_true : Steps stream if_below (before (pos 4) Dead) (pos 0) (other (pos 4) Dead)
  pub if_is_false : Steps stream if_below (before (pos 5) Dead) (pos 0) (next (pos 5) Dead)
  pub goto_goes : Steps stream (Goto 2) (before (pos 0) Dead) (pos 0) (other (pos 0) Dead)
  pub pick_picks : Steps stream (Pick x (pos 3) (pos 7)) (before (pos 0) Dead) (pos 6) (next (pos 6) Dead)
  pub enter_goes_in : Steps stream enter (before (pos 0) Dead) (pos 0) (seen (At 1 Before) (pos 0) Dead (Some (0, 1)) 0)
  pub enter_goes_deeper : Steps stream enter (seen (At 0 Before) (pos 0) Dead (Some (0, 1)) 0) (pos 0) (seen (At 1 Before) (pos 0) Dead (Some (0, 2)) 0)
  pub exit_goes_up : Steps stream exit (seen (At 0 Before) (pos 0) Dead (Some (0, 2)) 0) (pos 0) (seen (At 1 Before) (pos 0) Dead (Some (0, 1)) 0)
  pub exit_goes_out : Steps stream exit (seen (At 0 Before) (pos 0) Dead (Some (0, 1)) 0) (pos 0) (next (pos 0) Dead)
  pub suspend_goes_up : Steps stream (Calls SuspendAll) (before (pos 0) Dead) (pos 0) (seen (At 1 Before) (pos 0) Dead None 1)
  pub resume_goes_down : Steps stream (Calls ResumeAll) (seen (At 0 Before) (pos 0) Dead None 1) (pos 0) (next (pos 0) Dead)
  pub delay_goes_on : Steps stream (Calls (Delay 1)) (before (pos 0) Dead) (pos 0) (next (pos 0) Dead)
  pub delete_self_ends : Steps stream (Calls DeleteSelf) (before (pos 0) Dead) (pos 0) (seen Done (pos 0) Dead None 0)
  pub create_works : Steps stream create (before (pos 0) Dead) (pos 1) (next (pos 0) (Bytes 0))
  pub create_counting_begins_at_its_first_count : Steps (Counting (pos 3) (pos 2)) create_counting (before (pos 0) Dead) (pos 1) (next (pos 0) (Count 2))
  pub create_fails : Steps stream create (before (pos 0) Dead) (pos 0) (other (pos 0) Dead)
  pub delete_works : Steps stream delete (before (pos 0) (Bytes 3)) (pos 0) (next (pos 0) Dead)
  pub call_begins : Steps Mutex (take ten) (before (pos 0) (Held 1 1)) (pos 0) (inside (pos 0) (Held 1 1))

-- the ends of object calls
pub record WorkedEnds : Type 0 where
  pub take_of_mutex : Steps Mutex (take MaxDelay) (inside (pos 0) Free) (pos 1) (next (pos 0) (Held 0 1))
  pub take_again : Steps Recursive take_recursive (inside (pos 0) (Held 0 1)) (pos 1) (next (pos 0) (Held 0 2))
  pub take_of_recursive : Steps Recursive take_recursive (inside (pos 0) Free) (pos 1) (next (pos 0) (Held 0 1))
  pub take_of_binary : Steps Binary (take ten) (inside (pos 0) (Count 1)) (pos 1) (next (pos 0) (Count 0))
  pub take_times_out : Steps Mutex (take ten) (inside (pos 0) (Held 1 1)) (pos 0) (other (pos 0) (Held 1 1))
  pub take_fails_at_once : Steps Mutex (take (Ticks 0)) (inside (pos 0) Free) (pos 0) (other (pos 0) Free)
  pub take_from_interrupt_fails : Steps Binary take_at_once (inside (pos 0) (Count 0)) (pos 0) (other (pos 0) (Count 0))
  pub give_of_mutex : Steps Mutex give (inside (pos 0) (Held 0 1)) (pos 1) (next (pos 0) Free)
  pub give_once : Steps Recursive give_recursive (inside (pos 0) (Held 0 2)) (pos 1) (next (pos 0) (Held 0 1))
  pub give_last : Steps Recursive give_recursive (inside (pos 0) (Held 0 1)) (pos 1) (next (pos 0) Free)
  pub give_of_binary : Steps Binary give (inside (pos 0) (Count 0)) (pos 1) (next (pos 0) (Count 1))
  pub give_of_full_binary : Steps Binary give (inside (pos 0) (Count 1)) (pos 0) (other (pos 0) (Count 1))
  pub give_of_counting : Steps (Counting (pos 2) (pos 0)) give (inside (pos 0) (Count 1)) (pos 1) (next (pos 0) (Count 2))
  pub give_is_refused : Steps (Counting (pos 2) (pos 0)) give (inside (pos 0) (Count 2)) (pos 0) (other (pos 0) (Count 2))
  pub queue_send_puts_last : Steps queue queue_send (inside (pos 4) (Values (pos 3 ∷ []))) (pos 1) (next (pos 4) (Values (pos 3 ∷ pos 4 ∷ [])))
  pub queue_send_times_out : Steps queue queue_send (inside (pos 4) (Values (pos 3 ∷ []))) (pos 0) (other (pos 4) (Values (pos 3 ∷ [])))
  pub queue_receive_times_out : Steps queue queue_receive (inside (pos 4) (Values [])) (pos 0) (other (pos 4) (Values []))
  pub queue_receive_from_interrupt_fails : Steps queue queue_receive_at_once (inside (pos 0) (Values [])) (pos 0) (other (pos 0) (Values []))
  pub queue_receive_takes_first : Steps queue queue_receive (inside (pos 0) (Values (pos 3 ∷ pos 4 ∷ []))) (pos 1) (next (pos 3) (Values (pos 4 ∷ [])))
  pub stream_send_moves_some : Steps stream stream_send (inside (pos 0) (Bytes 2)) (pos 3) (next (pos 3) (Bytes 5))
  pub stream_receive_moves_some : Steps stream stream_receive (inside (pos 0) (Bytes 5)) (pos 2) (next (pos 2) (Bytes 3))
  pub message_send_sends_none : Steps message message_send (inside (pos 0) (Lengths (5 ∷ []))) (pos 0) (next (pos 0) (Lengths (5 ∷ [])))
  pub message_send_sends_all : Steps message message_send (inside (pos 0) (Lengths (5 ∷ []))) (pos 8) (next (pos 0) (Lengths (5 ∷ 8 ∷ [])))
  pub message_receive_gets_none : Steps message message_receive (inside (pos 4) (Lengths (3 ∷ 5 ∷ []))) (pos 0) (next (pos 0) (Lengths (3 ∷ 5 ∷ [])))
  pub message_receive_takes_first : Steps message message_receive (inside (pos 0) (Lengths (3 ∷ 5 ∷ []))) (pos 3) (next (pos 3) (Lengths (5 ∷ [])))
  pub reset_empties : Steps stream reset (inside (pos 0) (Bytes 5)) (pos 1) (next (pos 0) (Bytes 0))
  pub reset_fails : Steps stream reset (inside (pos 0) (Bytes 5)) (pos 0) (other (pos 0) (Bytes 5))

-- actor 0 has no step from this state, whatever the choice
abbrev pub HasNoStep : Program → State → Type 0
HasNoStep P S = (c : ℤ) (S' : State) → Step P S 0 c S' → ⊥

-- where an actor has no step
pub record WorkedStops : Type 0 where
  -- another actor is in the critical section
  pub enter_waits : HasNoStep (of_one stream enter) (seen (At 0 Before) (pos 0) Dead (Some (1, 1)) 0)
  -- another actor holds the mutex, and the wait is without limit
  pub take_waits : HasNoStep (of_one Mutex (take MaxDelay)) (inside (pos 0) (Held 1 1))
  -- each of the rules 3 to 7 and 9 to 11
  pub delay_needs_no_critical_section : HasNoStep (of_one stream (Calls (Delay 1))) (seen (At 0 Before) (pos 0) Dead (Some (0, 1)) 0)
  pub delay_needs_no_suspension : HasNoStep (of_one stream (Calls (Delay 1))) (seen (At 0 Before) (pos 0) Dead None 1)
  pub delay_needs_a_task : HasNoStep (beside Interrupt stream (Calls (Delay 1) ∷ Goto 0 ∷ []) (Goto 0)) (before (pos 0) Dead)
  pub send_needs_a_live_buffer : HasNoStep (of_one stream stream_send) (before (pos 0) Dead)
  pub send_needs_it_to_the_end : HasNoStep (of_one stream stream_send) (inside (pos 0) Dead)
  pub delete_needs_a_live_object : HasNoStep (of_one stream delete) (before (pos 0) Dead)
  pub take_needs_its_kind : HasNoStep (of_one Recursive (take ten)) (before (pos 0) Free)
  pub recursive_give_needs_a_holder : HasNoStep (of_one Recursive give_recursive) (inside (pos 0) (Held 1 1))
  pub give_needs_a_holder : HasNoStep (of_one Mutex give) (inside (pos 0) (Held 1 1))
  pub exit_needs_a_depth : HasNoStep (of_one stream exit) (before (pos 0) Dead)
  pub a_task_never_returns : HasNoStep (of_one stream Return) (before (pos 0) Dead)
  -- inside a take that rule 9 names
  pub take_inside_needs_its_kind : HasNoStep (of_one Recursive (take ten)) (inside (pos 0) Free)
  -- a create of a live object
  pub create_needs_a_dead_object : HasNoStep (of_one stream create) (before (pos 0) (Bytes 0))
  -- a task that has ended
  pub done_is_done : HasNoStep (of_one stream add_one) (seen Done (pos 0) Dead None 0)

-- actor 0 has no step with this choice
abbrev pub HasNoChoice : Kind → Instr → State → ℤ → Type 0
HasNoChoice kind i S c = (S' : State) → Steps kind i S c S' → ⊥

-- choices that a step doesn't have
pub record WorkedBounds : Type 0 where
  pub pick_stays_within : HasNoChoice stream (Pick x (pos 3) (pos 7)) (before (pos 0) Dead) (pos 8)
  -- 2 bytes are free
  pub stream_send_stays_within : HasNoChoice stream stream_send (inside (pos 0) (Bytes 6)) (pos 3)
  -- 2 bytes are there
  pub stream_receive_stays_within : HasNoChoice stream stream_receive (inside (pos 0) (Bytes 2)) (pos 3)
  -- a message is sent whole or not at all
  pub message_send_is_whole : HasNoChoice message message_send (inside (pos 0) (Lengths [])) (pos 3)
  -- a message longer than the call's length stays where it is
  pub message_receive_has_room : HasNoChoice message message_receive (inside (pos 0) (Lengths (9 ∷ []))) (pos 9)
  -- a full queue takes no value
  pub queue_send_has_room : HasNoChoice queue queue_send (inside (pos 4) (Values (pos 3 ∷ pos 3 ∷ []))) (pos 1)

-- 1, 2 and 3 compared with 2
abbrev pub against_two : Comparison → List Bool
against_two comparison = compare comparison (pos 1) (pos 2) ∷ compare comparison (pos 2) (pos 2) ∷ compare comparison (pos 3) (pos 2) ∷ []

-- the six comparisons
pub record WorkedComparisons : Type 0 where
  pub less : against_two Less ≡ true ∷ false ∷ false ∷ []
  pub at_most : against_two AtMost ≡ true ∷ true ∷ false ∷ []
  pub greater : against_two Greater ≡ false ∷ false ∷ true ∷ []
  pub at_least : against_two AtLeast ≡ false ∷ true ∷ true ∷ []
  pub equal : against_two Equal ≡ false ∷ true ∷ false ∷ []
  pub not_equal : against_two NotEqual ≡ true ∷ false ∷ true ∷ []

-- an interrupt with two instructions, which goes back to the first one when it returns
abbrev pub counts_once : Program
counts_once = beside Interrupt stream (add_one ∷ Return ∷ []) (Goto 0)

-- a run of three states
abbrev pub WorkedRun : Type 0
WorkedRun = IsRun counts_once (before (pos 0) (Bytes 0) ∷ next (pos 1) (Bytes 0) ∷ before (pos 1) (Bytes 0) ∷ [])
