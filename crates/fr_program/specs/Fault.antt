-- Applications without a fault: one fact for each build fault, that it is not present.
--
-- | word             | meaning                                                                             |
-- |------------------|-------------------------------------------------------------------------------------|
-- | EachInstr        | something holds of each instruction, with the actor that has it                     |
-- | AtLine           | something holds of the instruction at a line of code, if there is one               |
-- | Leaves           | the instruction doesn't go on to the next one                                       |
-- | SuitsKind        | the call names an object of the kind that it is for                                 |
-- | SharesAtMostOne  | an instruction names shared variables at most once                                  |
-- | MayUse           | an actor may use a variable                                                         |
-- | MayUseAll        | an actor may use each variable of an instruction                                    |
-- | Covers           | the range of a variable has the whole of these numbers                              |
-- | ResultsFit       | the range of a variable has all that a `pick` or a call can give it                 |
-- | SuitsActor       | a task makes no call that is for interrupts                                         |
-- | OperandsFit      | no variable is both operands, and `*` has a number among its operands               |
-- | NamesThings      | each number in the instruction names a variable or an object                        |
-- | IsFreeOf         | this fault is not present at the line or the actor that it is about                 |
-- | IsFaultless      | none of the eleven faults is present                                                |
use Rattle.std.specs.Prelude.{◌≡◌, ◌≢◌, ◌≤◌, ◌<◌, ◌≤ℤ◌, ◌⊎◌, ◌+◌, ℕ, ℤ, pos, Option, None, Some, Bool, true, false, IsTrue, length, IfSome, All, AllPairs, count_by, slice_get, is_none}
use Rattle.fr_program.specs.declared.instr.Instr.{Instr}
use Rattle.fr_program.specs.declared.instr.Instr.TheVariants.{Set, If, Goto, Pick, Call as Calls, Return}
use Rattle.fr_program.specs.declared.instr.Call.TheVariants.{DeleteSelf, Create, Delete, On}
use Rattle.fr_program.specs.declared.instr.Call.{Call}
use Rattle.fr_program.specs.declared.instr.Act.{Act}
use Rattle.fr_program.specs.declared.instr.Act.TheVariants.{Try, Move}
use Rattle.fr_program.specs.declared.instr.Operand.{Operand}
use Rattle.fr_program.specs.declared.instr.Operand.TheVariants.{Number, Variable}
use Rattle.fr_program.specs.declared.instr.Operator.TheVariants.{Times}
use Rattle.fr_program.specs.declared.ids.ObjId.{ObjId}
use Rattle.fr_program.specs.declared.ids.VarId.{VarId}
use Rattle.fr_program.specs.declared.parts.Kind.{Kind}
use Rattle.fr_program.specs.declared.parts.Kind.TheVariants.{Queue}
use Rattle.fr_program.specs.declared.parts.ActorKind.TheVariants.{Task}
use Rattle.fr_program.specs.declared.fault.CodeLine.{CodeLine}
use Rattle.fr_program.specs.declared.fault.BuildFault.{BuildFault}
use Rattle.fr_program.specs.declared.fault.BuildFault.TheVariants.{Memory, TooMany, BadRange, BadTarget, FallsOff, TwoShared, NotOwner, KindMismatch, FromIsrInTask, ResultRange, Operands, Names}
use Rattle.fr_program.specs.Program.{Program, ActorOf}
use Rattle.fr_program.specs.Lookup.{actor_at, variable_at, instr_at}
use Rattle.fr_program.specs.Limits.{VariableInLimits, KindInLimits, InstrInLimits, IsName, names_of, most_actors, most_variables, most_objects, most_instructions}
use Rattle.fr_program.specs.Uses.{variables_of, object_of_call, object_named, received_by, TargetsBelow, makes_kind, drops_kind, acts_on, is_from_isr}

-- something about each instruction, and the actor that has it
abbrev pub EachInstr : Program → (ℕ → Instr → Type 0) → Type 0
EachInstr P F = (a pc : ℕ) (i : Instr) → instr_at P a pc ≡ Some i → F a i

-- something about the instruction at this line of code, if there is one
abbrev pub AtLine : Program → CodeLine → (Instr → Type 0) → Type 0
AtLine P line F = IfSome (instr_at P line.actor.0 line.pc) F

-- the instruction doesn't go on to the next one
abbrev pub Leaves : Option Instr → Type 0
Leaves (Some (Goto target)) = Unit {0}
Leaves (Some Return) = Unit {0}
Leaves (Some (Calls DeleteSelf)) = Unit {0}
Leaves i = ⊥

-- code that has a last instruction, which doesn't go on
abbrev pub EndsWell : ActorOf → Type 0
EndsWell actor = (last : ℕ) × (length actor.code ≡ last + 1) × Leaves (slice_get actor.code last)

-- whether this is a variable with no owner
abbrev pub is_shared : Program → VarId → Bool
is_shared P x = elim (slice_get P.variables x.0) [ None ↦ false | Some v ↦ is_none v.owner ]

-- the instruction names shared variables at most once
abbrev pub SharesAtMostOne : Program → Instr → Type 0
SharesAtMostOne P i = count_by (is_shared P) (variables_of i) ≤ 1

-- the variable, where one of the actors owns it, is this actor's; an owner that is no actor is a fault of names alone
abbrev pub MayUse : Program → ℕ → VarId → Type 0
MayUse P a x = IfSome (variable_at P x.0).owner (λ owner. owner.0 < length P.actors → owner.0 ≡ a)

-- the actor with this number may use each variable of the instruction
abbrev pub MayUseAll : Program → ℕ → Instr → Type 0
MayUseAll P a i = All (λ x. MayUse P a x) (variables_of i)

-- the object, where there is one, is of a kind that passes this test
abbrev pub HasKind : Program → ℕ → (Kind → Bool) → Type 0
HasKind P o test = IfSome (slice_get P.objects o) (λ object. IsTrue (test object.kind))

-- whether the call is for objects of this kind; also if it is for none
abbrev pub is_for : Call → Kind → Bool
is_for (Create created o e) kind = makes_kind created kind
is_for (Delete deleted o) kind = drops_kind deleted kind
is_for (On call) kind = acts_on call.act kind
is_for call kind = true

-- the object that a call names, where there is one, is of a kind that the call is for
abbrev pub SuitsKind : Program → Instr → Type 0
SuitsKind P (Calls call) = IfSome (object_of_call call) (λ o. HasKind P o.0 (is_for call))
SuitsKind P i = Unit {0}

-- a task makes no call that is for interrupts
abbrev pub SuitsActor : ActorOf → Instr → Type 0
SuitsActor actor (Calls call) = actor.kind ≡ Task → is_from_isr call ≡ false
SuitsActor actor i = Unit {0}

-- the range of the variable, where there is one, has the whole of these numbers
abbrev pub Covers : Program → VarId → ℤ → ℤ → Type 0
Covers P x lo hi = IfSome (slice_get P.variables x.0) (λ v. (v.lo ≤ℤ lo) × (hi ≤ℤ v.hi))

-- the range of a receiving variable has all that a queue can hold
abbrev pub CoversQueue : Program → VarId → Kind → Type 0
CoversQueue P x (Queue size lo hi) = Covers P x lo hi
CoversQueue P x kind = Unit {0}

-- a receiving variable has the range of the queue, where there is one; a result variable has 0 to the call's length
abbrev pub TakesIn : Program → ObjId → Act → Type 0
TakesIn P o (Try attempt e) = IfSome (received_by attempt) (λ into. IfSome (slice_get P.objects o.0) (λ object. CoversQueue P into object.kind))
TakesIn P o (Move end buffer n result) = IfSome result (λ x. Covers P x (pos 0) (pos n))

-- both bounds of a `pick` are in the range of its variable, and that of an object call's has all that the call can give
abbrev pub ResultsFit : Program → Instr → Type 0
ResultsFit P (Pick x lo hi) = Covers P x lo lo × Covers P x hi hi
ResultsFit P (Calls (On call)) = TakesIn P call.object call.act
ResultsFit P i = Unit {0}

-- the operand is a number
abbrev pub IsConstant : Operand → Type 0
IsConstant (Number z) = Unit {0}
IsConstant (Variable x) = ⊥

-- the operands are not both one variable
abbrev pub AreApart : Operand → Operand → Type 0
AreApart (Variable x) (Variable y) = x ≢ y
AreApart l r = Unit {0}

-- no variable is both operands, and `*` has a number among its operands
abbrev pub OperandsFit : Instr → Type 0
OperandsFit (Set x l Times r) = IsConstant l ⊎ IsConstant r
OperandsFit (Set x l op r) = AreApart l r
OperandsFit (If l comparison r target) = AreApart l r
OperandsFit i = Unit {0}

-- each number in the instruction names a variable or an object
abbrev pub NamesThings : Program → Instr → Type 0
NamesThings P i = All (λ x. x.0 < length P.variables) (variables_of i) × IfSome (object_named i) (λ o. o.0 < length P.objects)

-- names are names, each is given once, and each number names something
pub record HasNames (P : Program) : Type 0 where
  pub names : All IsName (names_of P)
  pub once : AllPairs (λ x y. x ≢ y) (names_of P)
  pub things : EachInstr P (λ a i. NamesThings P i)
  pub owners : All (λ v. IfSome v.owner (λ owner. owner.0 < length P.actors)) P.variables

-- the numbers of the application are within their limits
pub record IsInLimits (P : Program) : Type 0 where
  pub variables : All VariableInLimits P.variables
  pub objects : All (λ o. KindInLimits o.kind) P.objects
  pub code : EachInstr P (λ a i. InstrInLimits i)

-- there are not too many things, and no code is too long
pub record IsSmall (P : Program) : Type 0 where
  pub actors : length P.actors ≤ most_actors
  pub variables : length P.variables ≤ most_variables
  pub objects : length P.objects ≤ most_objects
  pub code : All (λ a. length a.code ≤ most_instructions) P.actors

-- the numbers of variables and objects are within their limits
pub record AreThingsInLimits (P : Program) : Type 0 where
  pub variables : All VariableInLimits P.variables
  pub objects : All (λ o. KindInLimits o.kind) P.objects

-- names are names, each is given once, and each owner is an actor that is there
pub record AreThingsNamed (P : Program) : Type 0 where
  pub names : All IsName (names_of P)
  pub once : AllPairs (λ x y. x ≢ y) (names_of P)
  pub owners : All (λ v. IfSome v.owner (λ owner. owner.0 < length P.actors)) P.variables

-- this fault is not present at the line or the actor that it is about; with none, not where things are declared
abbrev pub IsFreeOf : Program → BuildFault → Type 0
IsFreeOf P Memory = Unit {0}
IsFreeOf P TooMany = IsSmall P
IsFreeOf P (BadRange None) = AreThingsInLimits P
IsFreeOf P (BadRange (Some at)) = AtLine P at InstrInLimits
IsFreeOf P (BadTarget at) = AtLine P at (TargetsBelow (length (actor_at P at.actor.0).code))
IsFreeOf P (FallsOff a) = IfSome (slice_get P.actors a.0) EndsWell
IsFreeOf P (TwoShared at) = AtLine P at (SharesAtMostOne P)
IsFreeOf P (NotOwner at) = AtLine P at (MayUseAll P at.actor.0)
IsFreeOf P (KindMismatch at) = AtLine P at (SuitsKind P)
IsFreeOf P (FromIsrInTask at) = AtLine P at (SuitsActor (actor_at P at.actor.0))
IsFreeOf P (ResultRange at) = AtLine P at (ResultsFit P)
IsFreeOf P (Operands at) = AtLine P at OperandsFit
IsFreeOf P (Names None) = AreThingsNamed P
IsFreeOf P (Names (Some at)) = AtLine P at (NamesThings P)

-- an application: parts in which none of the eleven faults is present
pub record IsFaultless (P : Program) : Type 0 where
  pub small : IsSmall P
  pub limits : IsInLimits P
  pub targets : EachInstr P (λ a i. TargetsBelow (length (actor_at P a).code) i)
  pub ends : All EndsWell P.actors
  pub shared : EachInstr P (λ a i. SharesAtMostOne P i)
  pub owners : EachInstr P (λ a i. MayUseAll P a i)
  pub kinds : EachInstr P (λ a i. SuitsKind P i)
  pub forms : EachInstr P (λ a i. SuitsActor (actor_at P a) i)
  pub results : EachInstr P (λ a i. ResultsFit P i)
  pub operands : EachInstr P (λ a i. OperandsFit i)
  pub names : HasNames P
