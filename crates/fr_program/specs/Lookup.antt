-- What an application says of its actors, objects and variables by number, and where an actor can stand.
--
-- | word                                | meaning                                                          |
-- |-------------------------------------|------------------------------------------------------------------|
-- | actor_at, object_at, variable_at    | the thing with this number, or an empty one where there is none  |
-- | is_interrupt                        | whether a kind of actor is the interrupt                         |
-- | instr_at, instr_of                  | the instruction at a place of an actor's code, at a point        |
-- | HasSide                             | the sides of an instruction at which an actor can stand          |
-- | IsPoint                             | the application has this point                                   |
use Rattle.std.specs.Prelude.{◌≡◌, ℕ, pos, [], Option, None, Some, Bool, true, false, slice_get, slice_index_or}
use Rattle.fr_program.specs.declared.instr.Instr.{Instr}
use Rattle.fr_program.specs.declared.instr.Instr.TheVariants.{Call as Calls}
use Rattle.fr_program.specs.declared.instr.Call.TheVariants.{On}
use Rattle.fr_program.specs.declared.ids.Point.{Point}
use Rattle.fr_program.specs.declared.ids.Side.{Side}
use Rattle.fr_program.specs.declared.ids.Side.TheVariants.{Before, Inside}
use Rattle.fr_program.specs.declared.parts.Kind.TheVariants.{Mutex}
use Rattle.fr_program.specs.declared.parts.ActorKind.{ActorKind}
use Rattle.fr_program.specs.declared.parts.ActorKind.TheVariants.{Task, Interrupt}
use Rattle.fr_program.specs.Program.{Program, VariableOf, ObjectOf, ActorOf}

-- what is read for an actor that the application doesn't have
abbrev pub no_actor : ActorOf
no_actor = record { name = []; kind = Task; code = [] }

-- what is read for an object that the application doesn't have
abbrev pub no_object : ObjectOf
no_object = record { name = []; kind = Mutex; live = false }

-- what is read for a variable that the application doesn't have
abbrev pub no_variable : VariableOf
no_variable = record { name = []; lo = pos 0; hi = pos 0; init = pos 0; owner = None }

-- the actor, object or variable with this number
abbrev pub actor_at : Program → ℕ → ActorOf
actor_at P a = slice_index_or P.actors a no_actor

-- the object with this number
abbrev pub object_at : Program → ℕ → ObjectOf
object_at P o = slice_index_or P.objects o no_object

-- the variable with this number
abbrev pub variable_at : Program → ℕ → VariableOf
variable_at P x = slice_index_or P.variables x no_variable

-- whether actors of this kind are interrupts
abbrev pub is_interrupt : ActorKind → Bool
is_interrupt Task = false
is_interrupt Interrupt = true

-- the instruction at a place of an actor's code, if there is one
abbrev pub instr_at : Program → ℕ → ℕ → Option Instr
instr_at P a pc = slice_get (actor_at P a).code pc

-- an actor can stand before each instruction, and inside an object call
abbrev pub HasSide : Instr → Side → Type 0
HasSide i Before = Unit {0}
HasSide (Calls (On call)) Inside = Unit {0}
HasSide i Inside = ⊥

-- the application has this place: an instruction of the actor, at a side at which an actor can stand
abbrev pub IsPlace : Program → ℕ → ℕ → Side → Type 0
IsPlace P a pc side = (i : Instr) × (instr_at P a pc ≡ Some i) × HasSide i side

-- the same, of a point
abbrev pub IsPoint : Program → Point → Type 0
IsPoint P p = IsPlace P p.actor.0 p.pc p.side

-- the instruction of a point
abbrev pub instr_of : Program → Point → Option Instr
instr_of P p = instr_at P p.actor.0 p.pc
