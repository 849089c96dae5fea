-- Faults at one instruction: what each fault says of it, and what its absence says.
--
-- | word                          | meaning                                                               |
-- |-------------------------------|-----------------------------------------------------------------------|
-- | used, InEachPlace             | the variables in an instruction's three places, what holds of each    |
-- | IsVariable                    | the application has this variable                                     |
-- | HasFault, HasFaultIn          | the instruction has this fault, some instruction of the actor has it  |
-- | IsInstrFaultless              | the instruction has none                                              |
-- | IsCodeFaultless               | the same of each instruction of each actor                            |
use Rattle.std.specs.Prelude.{◌≡◌, ◌<◌, ℕ, List, ◌++◌, Some, length, IfSome, slice_get}
use Rattle.fr_program.specs.declared.check.uses.Uses.{Uses}
use Rattle.fr_program.specs.declared.ids.ActorId.{ActorId}
use Rattle.fr_program.specs.declared.ids.VarId.{VarId}
use Rattle.fr_program.specs.declared.instr.Instr.{Instr}
use Rattle.fr_program.specs.declared.fault.CodeLine.{CodeLine}
use Rattle.fr_program.specs.declared.fault.BuildFault.{BuildFault}
use Rattle.fr_program.specs.declared.fault.BuildFault.TheVariants.{BadRange, BadTarget, TwoShared, NotOwner, KindMismatch, FromIsrInTask, ResultRange, Operands, Names}
use Rattle.fr_program.specs.Program.{Program, ActorOf}
use Rattle.fr_program.specs.Lookup.{actor_at}
use Rattle.fr_program.specs.Limits.{InstrInLimits}
use Rattle.fr_program.specs.Uses.{option_list, TargetsBelow}
use Rattle.fr_program.specs.Fault.{EachInstr, SharesAtMostOne, MayUseAll, SuitsKind, SuitsActor, ResultsFit, OperandsFit, NamesThings}

-- the variables that the code finds in an instruction, in its order
abbrev pub used : Uses → List VarId
used uses = option_list uses.target ++ (option_list uses.left ++ option_list uses.right)

-- something holds of the variable of each place that has one
abbrev pub InEachPlace : (VarId → Type 0) → Uses → Type 0
InEachPlace F uses = IfSome uses.target F × IfSome uses.left F × IfSome uses.right F

-- the application has this variable
abbrev pub IsVariable : Program → VarId → Type 0
IsVariable P x = x.0 < length P.variables

-- the instruction at this line, of this actor, has the fault, which is about this line
abbrev pub HasFault : Program → CodeLine → ActorOf → Instr → BuildFault → Type 0
HasFault P at actor i (BadRange (Some line)) = (line ≡ at) × (InstrInLimits i → ⊥)
HasFault P at actor i (BadTarget line) = (line ≡ at) × (TargetsBelow (length actor.code) i → ⊥)
HasFault P at actor i (TwoShared line) = (line ≡ at) × (SharesAtMostOne P i → ⊥)
HasFault P at actor i (NotOwner line) = (line ≡ at) × (MayUseAll P at.actor.0 i → ⊥)
HasFault P at actor i (KindMismatch line) = (line ≡ at) × (SuitsKind P i → ⊥)
HasFault P at actor i (FromIsrInTask line) = (line ≡ at) × (SuitsActor actor i → ⊥)
HasFault P at actor i (ResultRange line) = (line ≡ at) × (ResultsFit P i → ⊥)
HasFault P at actor i (Operands line) = (line ≡ at) × (OperandsFit i → ⊥)
HasFault P at actor i (Names (Some line)) = (line ≡ at) × (NamesThings P i → ⊥)
HasFault P at actor i fault = ⊥

-- some instruction of this actor, which has this number, has the fault
abbrev pub HasFaultIn : Program → ActorId → ActorOf → BuildFault → Type 0
HasFaultIn P a actor fault = (pc : ℕ) × (i : Instr) × (slice_get actor.code pc ≡ Some i) × HasFault P (record { actor = a; pc = pc }) actor i fault

-- the instruction, of this actor with this number, has none of these faults
pub record IsInstrFaultless (P : Program) (a : ℕ) (actor : ActorOf) (i : Instr) : Type 0 where
  pub limits : InstrInLimits i
  pub targets : TargetsBelow (length actor.code) i
  pub shared : SharesAtMostOne P i
  pub owners : MayUseAll P a i
  pub kinds : SuitsKind P i
  pub forms : SuitsActor actor i
  pub results : ResultsFit P i
  pub operands : OperandsFit i
  pub things : NamesThings P i

-- no instruction has any of these faults
abbrev pub IsCodeFaultless : Program → Type 0
IsCodeFaultless P = EachInstr P (λ a i. IsInstrFaultless P a (actor_at P a) i)
