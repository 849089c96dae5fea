-- Worked breaches: the table of the rules on small states.
--
-- | word               | meaning                                                                      |
-- |--------------------|------------------------------------------------------------------------------|
-- | both               | a state by the places of two actors, the object and the critical section     |
-- | WorkedBreaches     | breaches of the rules that need more than the least rule                     |
-- | least              | the least of the rules 4, 5, 6, 9, 10, 11 before an instruction              |
-- | WorkedLeast        | that rule, of instructions beside each other                                 |
use Rattle.std.specs.Prelude.{◌≡◌, ℕ, pos, [], ◌∷◌, Option, None, Some, Bool, true, false}
use Rattle.std.specs.Option.{option_map}
use Rattle.fr_program.specs.declared.instr.Instr.{Instr}
use Rattle.fr_program.specs.declared.instr.Instr.TheVariants.{Goto, Call as Calls, Return}
use Rattle.fr_program.specs.declared.instr.Call.TheVariants.{EnterCritical, ResumeAll, Delay, DeleteSelf}
use Rattle.fr_program.specs.declared.instr.Form.TheVariants.{FromIsr as InIsr}
use Rattle.fr_program.specs.declared.instr.Act.TheVariants.{Move}
use Rattle.fr_program.specs.declared.instr.Attempt.TheVariants.{QueueSend, Give}
use Rattle.fr_program.specs.declared.instr.SemaphoreForm.TheVariants.{Plain as PlainForm}
use Rattle.fr_program.specs.declared.instr.End.TheVariants.{Writer as AtWriter}
use Rattle.fr_program.specs.declared.instr.BufferKind.TheVariants.{Stream as OfStream}
use Rattle.fr_program.specs.declared.instr.Timing.{Timing}
use Rattle.fr_program.specs.declared.instr.Timing.TheVariants.{Waits, FromIsr}
use Rattle.fr_program.specs.declared.instr.BlockTime.TheVariants.{Ticks, MaxDelay}
use Rattle.fr_program.specs.declared.instr.Operand.TheVariants.{Variable}
use Rattle.fr_program.specs.declared.ids.Side.TheVariants.{Before, Inside}
use Rattle.fr_program.specs.declared.parts.Kind.{Kind}
use Rattle.fr_program.specs.declared.parts.Kind.TheVariants.{Binary, Mutex, Recursive}
use Rattle.fr_program.specs.declared.parts.ActorKind.TheVariants.{Task}
use Rattle.fr_program.specs.Program.{Program}
use Rattle.fr_rules.specs.State.{State, Place, At, Content, Dead, Values, Held, Bytes}
use Rattle.fr_rules.specs.declared.rules.Rule.TheVariants.{OneWriter, OneReader, GivenByHolder, AllowedInCritical, IsLive, LifeInOrder, EndsInOrder, InRange}
use Rattle.fr_rules.specs.Rule.{Breach, number_of, first_forbidden}
use Rattle.fr_worked.specs.WorkedSteps.{x, call, tries, beside, of_one, seen, before, inside, add_one, enter, exit, create, delete, take, take_recursive, give, give_recursive, queue_send, stream_send, stream_receive, reset, queue, stream}

-- two tasks, each with one instruction, and an object of this kind
abbrev pub two : Kind → Instr → Instr → Program
two kind i j = beside Task kind (i ∷ Goto 0 ∷ []) j

-- a state by the places of the two
abbrev pub both : Place → Place → Content → State
both p q content = record { places = p ∷ q ∷ []; values = pos 0 ∷ []; objects = content ∷ []; critical = None; suspended = 0 ∷ 0 ∷ [] }

-- both are inside their calls on a stream buffer with no bytes
abbrev pub both_inside : State
both_inside = both (At 0 Inside) (At 0 Inside) (Bytes 0)

-- breaches by actor 0
pub record WorkedBreaches : Type 0 where
  pub two_senders : Breach (two stream stream_send stream_send) both_inside OneWriter 0
  pub sender_and_reset : Breach (two stream stream_send reset) both_inside OneWriter 0
  pub receiver_and_reset : Breach (two stream stream_receive reset) both_inside OneReader 0
  -- a send and a receive don't meet at one end
  pub sender_and_receiver : Breach (two stream stream_send stream_receive) both_inside OneWriter 0 → ⊥
  pub give_of_anothers : Breach (of_one Mutex give) (before (pos 0) (Held 1 1)) GivenByHolder 0
  pub give_of_own : Breach (of_one Mutex give) (before (pos 0) (Held 0 1)) GivenByHolder 0 → ⊥
  pub recursive_give_of_anothers : Breach (of_one Recursive give_recursive) (before (pos 0) (Held 1 1)) GivenByHolder 0
  pub recursive_give_of_own : Breach (of_one Recursive give_recursive) (before (pos 0) (Held 0 2)) GivenByHolder 0 → ⊥
  pub delay_in_critical : Breach (of_one stream (Calls (Delay 1))) (seen (At 0 Before) (pos 0) Dead (Some (0, 1)) 0) AllowedInCritical 0
  pub use_of_a_dead_buffer : Breach (of_one stream stream_send) (inside (pos 0) Dead) IsLive 0
  pub delete_of_a_dead_buffer : Breach (of_one stream delete) (before (pos 0) Dead) IsLive 0
  pub delete_in_use : Breach (two stream delete stream_receive) (both (At 0 Before) (At 0 Inside) (Bytes 0)) LifeInOrder 0
  pub create_of_a_live_one : Breach (of_one stream create) (before (pos 0) (Bytes 0)) LifeInOrder 0
  pub end_with_a_mutex : Breach (of_one Mutex (Calls DeleteSelf)) (before (pos 0) (Held 0 1)) EndsInOrder 0
  pub end_in_a_critical_section : Breach (of_one stream (Calls DeleteSelf)) (seen (At 0 Before) (pos 0) Dead (Some (0, 1)) 0) EndsInOrder 0
  pub end_while_suspended : Breach (of_one stream (Calls DeleteSelf)) (seen (At 0 Before) (pos 0) Dead None 1) EndsInOrder 0
  pub set_out_of_range : Breach (of_one stream add_one) (before (pos 9) Dead) InRange 0
  pub send_out_of_range : Breach (of_one queue queue_send) (inside (pos 10) (Values [])) InRange 0

-- the number of the least rule that is breached, with an object of this kind: by an interrupt or a task, at these
-- depths, and holding a mutex or not
abbrev pub least : Kind → Bool → ℕ → ℕ → Bool → Instr → Option ℕ
least kind interrupt critical suspended holds i =
    option_map number_of (first_forbidden (of_one kind i) (record { interrupt = interrupt; critical = critical; suspended = suspended; holds = holds }) i)

-- a send of 8 bytes, by its block time
abbrev pub send_within : Timing → Instr
send_within timing = call timing (Move AtWriter OfStream 8 None)

-- the rules 4, 5, 6, 9, 10 and 11
pub record WorkedLeast : Type 0 where
  pub send_in_critical : least stream false 1 0 false (send_within (Waits (Ticks 5))) ≡ Some 4
  pub send_forever_in_critical : least stream false 1 0 false (send_within (Waits MaxDelay)) ≡ Some 4
  pub send_at_once_in_critical : least stream false 1 0 false (send_within (Waits (Ticks 0))) ≡ None
  pub send_from_isr_in_critical : least stream true 1 0 false (send_within FromIsr) ≡ None
  pub queue_send_in_critical : least queue false 1 0 false (tries (Waits (Ticks 0)) (QueueSend (Variable x))) ≡ Some 4
  pub take_in_critical : least Mutex false 1 0 false (take (Ticks 0)) ≡ Some 4
  pub delay_suspended : least stream false 0 1 false (Calls (Delay 1)) ≡ Some 5
  pub send_suspended : least stream false 0 1 false (send_within (Waits (Ticks 0))) ≡ Some 5
  pub enter_suspended : least stream false 0 1 false enter ≡ None
  pub give_in_interrupt : least Binary true 0 0 false give ≡ Some 6
  pub enter_in_interrupt : least stream true 0 0 false (Calls (EnterCritical InIsr)) ≡ None
  pub mutex_in_interrupt : least Mutex true 0 0 false (tries FromIsr (Give PlainForm)) ≡ Some 9
  pub binary_in_interrupt : least Binary true 0 0 false (tries FromIsr (Give PlainForm)) ≡ None
  pub plain_of_recursive : least Recursive false 0 0 false give ≡ Some 9
  pub recursive_of_plain : least Mutex false 0 0 false take_recursive ≡ Some 9
  pub exit_at_zero : least stream false 0 0 false exit ≡ Some 10
  pub resume_at_zero : least stream false 0 0 false (Calls ResumeAll) ≡ Some 10
  pub return_of_a_task : least stream false 0 0 false Return ≡ Some 11
  pub return_in_critical : least stream true 1 0 false Return ≡ Some 11
  pub return_of_an_interrupt : least stream true 0 0 false Return ≡ None
  pub end_at_zero : least stream false 0 0 false (Calls DeleteSelf) ≡ None
  pub end_in_critical : least stream false 1 0 false (Calls DeleteSelf) ≡ Some 4
  pub end_suspended : least stream false 0 1 false (Calls DeleteSelf) ≡ Some 5
  pub end_holding : least Mutex false 0 0 true (Calls DeleteSelf) ≡ Some 11
