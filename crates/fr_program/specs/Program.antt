-- An application as the contracts see it: three lists, of its variables, its objects and its actors. A thing's
-- number is its place in its list, from 0. Names are bytes of ASCII.
use Rattle.std.specs.Prelude.{ℕ, ℤ, List, Bool, Option}
use Rattle.fr_program.specs.declared.instr.Instr.{Instr}
use Rattle.fr_program.specs.declared.ids.ActorId.{ActorId}
use Rattle.fr_program.specs.declared.parts.Kind.{Kind}
use Rattle.fr_program.specs.declared.parts.ActorKind.{ActorKind}

-- a whole number from `lo` to `hi`, at `init` when the scheduler starts; with no owner it is shared
pub record VariableOf : Type 0 where
  pub name : List ℕ
  pub lo : ℤ
  pub hi : ℤ
  pub init : ℤ
  pub owner : Option ActorId

-- a kernel object, and whether it exists when the scheduler starts
pub record ObjectOf : Type 0 where
  pub name : List ℕ
  pub kind : Kind
  pub live : Bool

-- a task or an interrupt, with its code
pub record ActorOf : Type 0 where
  pub name : List ℕ
  pub kind : ActorKind
  pub code : List Instr

-- an application, or parts that may have faults
pub record Program : Type 0 where
  pub variables : List VariableOf
  pub objects : List ObjectOf
  pub actors : List ActorOf
