-- Faults of an application's lists, and of its names.
--
-- | word                               | meaning                                                          |
-- |------------------------------------|------------------------------------------------------------------|
-- | HasOwner                           | a variable's owner, if it has one, is an actor that is there     |
-- | leaves, ends_well                  | whether an instruction, the last of a code, doesn't go on        |
-- | IsWord                             | a name, except that it may be a reserved word                    |
-- | AreListsFaultless                  | variables, objects and ends of codes have no fault               |
-- | AreNamesFaultless                  | names are names, and each is given once                          |
use Rattle.std.specs.Prelude.{◌≡◌, ◌<◌, ◌≤◌, ◌≢◌, List, ℕ, length, IfSome, All, AllPairs, Option, Some, Bool, true, false, slice_get, slice_index, ◌-◌, ◌||◌}
use Rattle.fr_program.specs.declared.instr.Instr.{Instr}
use Rattle.fr_program.specs.declared.instr.Instr.TheVariants.{Goto, Return, Call as Calls}
use Rattle.fr_program.specs.declared.instr.Call.TheVariants.{DeleteSelf}
use Rattle.fr_program.specs.Program.{Program, VariableOf, ActorOf}
use Rattle.fr_program.specs.Limits.{VariableInLimits, KindInLimits, IsName, names_of, is_letter, is_digit}
use Rattle.fr_program.specs.Fault.{IsSmall, EndsWell}

-- the owner of the variable, where it has one, is among so many actors
abbrev pub HasOwner : ℕ → VariableOf → Type 0
HasOwner actors v = IfSome v.owner (λ owner. owner.0 < actors)

-- whether the instruction is there and doesn't go on to a next one
abbrev pub leaves : Option Instr → Bool
leaves (Some (Goto target)) = true
leaves (Some Return) = true
leaves (Some (Calls DeleteSelf)) = true
leaves i = false

-- whether the actor's code has a last instruction, which doesn't go on
abbrev pub ends_well : ActorOf → Bool
ends_well actor = leaves (slice_get actor.code (length actor.code - 1))

-- variables, objects and actors, but for names and instructions, have no fault
pub record AreListsFaultless (P : Program) : Type 0 where
  pub small : IsSmall P
  pub variables : All VariableInLimits P.variables
  pub objects : All (λ o. KindInLimits o.kind) P.objects
  pub ends : All EndsWell P.actors
  pub owners : All (HasOwner (length P.actors)) P.variables

-- names are names, and each is given once
pub record AreNamesFaultless (P : Program) : Type 0 where
  pub names : All IsName (names_of P)
  pub once : AllPairs (λ x y. x ≢ y) (names_of P)

-- a name, except that it may be a reserved word
pub record IsWord (name : List ℕ) : Type 0 where
  pub some : 1 ≤ length name
  pub short : length name ≤ 32
  pub letters : All (λ c. (is_letter c || is_digit c) ≡ true) name
  pub first : is_digit (slice_index name 0) ≡ false
