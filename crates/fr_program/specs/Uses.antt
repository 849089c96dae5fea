-- What an instruction uses: its variables, its object, its targets, and the kinds of object and actor that suit it.
--
-- | word                             | meaning                                                             |
-- |----------------------------------|---------------------------------------------------------------------|
-- | variables_of                     | the variables of an instruction, each as often as it is named there |
-- | object_named                     | the object that an instruction names, if it names one               |
-- | else_of, written_by              | the `else` target of an object call, the variable that it writes    |
-- | given_by                         | the variable that an instruction, or the end of its call, writes    |
-- | end_text, side_text              | the name of an end of a buffer, of a side of an instruction         |
-- | TargetsBelow                     | each target is below this number                                    |
-- | is_semaphore, is_buffer          | a kind is one of the semaphores, the kind of this buffer call       |
-- | makes_kind, drops_kind, acts_on  | a create, a delete, an object call suits this kind of object        |
-- | is_from_isr                      | the call's name ends in FromISR or _FROM_ISR                        |
use Rattle.std.specs.Prelude.{◌<◌, ◌++◌, ℕ, List, [], ◌∷◌, Option, None, Some, Bool, true, false, IfSome, codes}
use Rattle.fr_program.specs.declared.instr.Instr.{Instr}
use Rattle.fr_program.specs.declared.instr.Instr.TheVariants.{Set, If, Goto, Pick, Call as Calls}
use Rattle.fr_program.specs.declared.instr.Call.{Call}
use Rattle.fr_program.specs.declared.instr.Call.TheVariants.{EnterCritical, ExitCritical, Create, Delete, On}
use Rattle.fr_program.specs.declared.instr.Act.{Act}
use Rattle.fr_program.specs.declared.instr.Act.TheVariants.{Try, Move}
use Rattle.fr_program.specs.declared.instr.Attempt.{Attempt}
use Rattle.fr_program.specs.declared.instr.Attempt.TheVariants.{QueueSend, QueueReceive, Take, Give, Reset}
use Rattle.fr_program.specs.declared.instr.End.{End}
use Rattle.fr_program.specs.declared.instr.End.TheVariants.{Writer, Reader}
use Rattle.fr_program.specs.declared.instr.BufferKind.{BufferKind}
use Rattle.fr_program.specs.declared.instr.BufferKind.TheVariants.{Stream as OfStream, Message as OfMessage}
use Rattle.fr_program.specs.declared.instr.CreatedKind.{CreatedKind}
use Rattle.fr_program.specs.declared.instr.CreatedKind.TheVariants.{Queue as MakesQueue, Binary as MakesBinary, Counting as MakesCounting, Mutex as MakesMutex, Recursive as MakesRecursive, Stream as MakesStream, Message as MakesMessage}
use Rattle.fr_program.specs.declared.instr.DeletedKind.{DeletedKind}
use Rattle.fr_program.specs.declared.instr.DeletedKind.TheVariants.{Queue as DropsQueue, Semaphore as DropsSemaphore, Stream as DropsStream, Message as DropsMessage}
use Rattle.fr_program.specs.declared.instr.Operand.{Operand}
use Rattle.fr_program.specs.declared.instr.Operand.TheVariants.{Number, Variable}
use Rattle.fr_program.specs.declared.ids.ObjId.{ObjId}
use Rattle.fr_program.specs.declared.ids.Side.{Side}
use Rattle.fr_program.specs.declared.ids.Side.TheVariants.{Before, Inside}
use Rattle.fr_program.specs.declared.ids.VarId.{VarId}
use Rattle.fr_program.specs.declared.parts.Kind.{Kind}
use Rattle.fr_program.specs.declared.parts.Kind.TheVariants.{Queue, Binary, Counting, Mutex, Recursive, Stream, Message}
use Rattle.fr_program.specs.declared.instr.Form.TheVariants.{FromIsr}
use Rattle.fr_program.specs.declared.instr.Timing.{Timing}
use Rattle.fr_program.specs.declared.instr.Timing.TheVariants.{FromIsr as TimedFromIsr}

-- the variable that an operand is, if it is one
abbrev pub operand_variables : Operand → List VarId
operand_variables (Number z) = []
operand_variables (Variable x) = x ∷ []

-- a list of the variable, if there is one
abbrev pub option_list : Option VarId → List VarId
option_list None = []
option_list (Some x) = x ∷ []

-- the variable to which what an object call tries gives a value
abbrev pub received_by : Attempt → Option VarId
received_by (QueueReceive into) = Some into
received_by attempt = None

-- the variables of what an object call tries: an operand, or the one that takes a value
abbrev pub attempt_variables : Attempt → List VarId
attempt_variables (QueueSend value) = operand_variables value
attempt_variables attempt = option_list (received_by attempt)

-- the variables of an object call
abbrev pub act_variables : Act → List VarId
act_variables (Try attempt e) = attempt_variables attempt
act_variables (Move end buffer n result) = option_list result

-- the variables of an instruction, each as often as it is named there
abbrev pub variables_of : Instr → List VarId
variables_of (Set x l op r) = x ∷ (operand_variables l ++ operand_variables r)
variables_of (If l comparison r target) = operand_variables l ++ operand_variables r
variables_of (Pick x lo hi) = x ∷ []
variables_of (Calls (On call)) = act_variables call.act
variables_of i = []

-- the object that a call names
abbrev pub object_of_call : Call → Option ObjId
object_of_call (Create kind o e) = Some o
object_of_call (Delete kind o) = Some o
object_of_call (On call) = Some call.object
object_of_call call = None

-- the object that an instruction names
abbrev pub object_named : Instr → Option ObjId
object_named (Calls call) = object_of_call call
object_named i = None

-- the instruction that follows a failure, where the line names one
abbrev pub else_of : Act → Option ℕ
else_of (Try attempt e) = e
else_of (Move end buffer n result) = None

-- the variable to which the end of an object call gives a number
abbrev pub written_by : Act → Option VarId
written_by (Try attempt e) = received_by attempt
written_by (Move end buffer n result) = result

-- the variable to which an instruction, or the end of its call, gives a number
abbrev pub given_by : Instr → Option VarId
given_by (Set x l op r) = Some x
given_by (Pick x lo hi) = Some x
given_by (Calls (On call)) = written_by call.act
given_by i = None

-- the name of an end, as certificates and reports have it
abbrev pub end_text : End → List ℕ
end_text Writer = codes "writer"
end_text Reader = codes "reader"

-- the name of a side, before an instruction or inside it
abbrev pub side_text : Side → List ℕ
side_text Before = codes "before"
side_text Inside = codes "inside"

-- each target of the instruction is below n
abbrev pub TargetsBelow : ℕ → Instr → Type 0
TargetsBelow n (If l comparison r target) = target < n
TargetsBelow n (Goto target) = target < n
TargetsBelow n (Calls (Create kind o e)) = IfSome e (λ target. target < n)
TargetsBelow n (Calls (On call)) = IfSome (else_of call.act) (λ target. target < n)
TargetsBelow n i = Unit {0}

-- whether the create makes objects of this kind
abbrev pub makes_kind : CreatedKind → Kind → Bool
makes_kind MakesQueue (Queue size lo hi) = true
makes_kind MakesBinary Binary = true
makes_kind MakesCounting (Counting size first) = true
makes_kind MakesMutex Mutex = true
makes_kind MakesRecursive Recursive = true
makes_kind MakesStream (Stream size) = true
makes_kind MakesMessage (Message size) = true
makes_kind created kind = false

-- mutexes are semaphores too
abbrev pub is_semaphore : Kind → Bool
is_semaphore Binary = true
is_semaphore (Counting size first) = true
is_semaphore Mutex = true
is_semaphore Recursive = true
is_semaphore kind = false

-- whether the delete is for objects of this kind
abbrev pub drops_kind : DeletedKind → Kind → Bool
drops_kind DropsQueue (Queue size lo hi) = true
drops_kind DropsSemaphore kind = is_semaphore kind
drops_kind DropsStream (Stream size) = true
drops_kind DropsMessage (Message size) = true
drops_kind deleted kind = false

-- whether this is the kind of buffer that the call is for
abbrev pub is_buffer : BufferKind → Kind → Bool
is_buffer OfStream (Stream size) = true
is_buffer OfMessage (Message size) = true
is_buffer buffer kind = false

-- whether what an object call tries is for objects of this kind
abbrev pub attempts_on : Attempt → Kind → Bool
attempts_on (QueueSend value) (Queue size lo hi) = true
attempts_on (QueueReceive into) (Queue size lo hi) = true
attempts_on (Take form) kind = is_semaphore kind
attempts_on (Give form) kind = is_semaphore kind
attempts_on (Reset buffer) kind = is_buffer buffer kind
attempts_on attempt kind = false

-- whether the object call is for objects of this kind
abbrev pub acts_on : Act → Kind → Bool
acts_on (Try attempt e) kind = attempts_on attempt kind
acts_on (Move end buffer n result) kind = is_buffer buffer kind

-- whether an object call is in the form for interrupts
abbrev pub is_timing_from_isr : Timing → Bool
is_timing_from_isr TimedFromIsr = true
is_timing_from_isr timing = false

-- the calls whose names end in FromISR or _FROM_ISR
abbrev pub is_from_isr : Call → Bool
is_from_isr (EnterCritical FromIsr) = true
is_from_isr (ExitCritical FromIsr) = true
is_from_isr (On call) = is_timing_from_isr call.timing
is_from_isr call = false
