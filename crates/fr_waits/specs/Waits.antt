-- Which actors wait for one another over mutexes, and what a deadlock is.
--
-- Takes and portMAX_DELAY are the FreeRTOS Reference Manual's. What counts as a deadlock is this project's profile: a
-- cycle of actors, each inside a take without limit of a mutex that the next one holds.
--
-- | word              | meaning                                                                                  |
-- |-------------------|------------------------------------------------------------------------------------------|
-- | WaitsFor          | an actor waits without limit for a mutex that another one, or it itself, holds           |
-- | WaitInTurn        | each actor of a list waits for the next one, and the last one for one that is given      |
-- | IsWay, LeadsTo    | the waits lead from an actor to another one, to one of a list                            |
-- | IsCycle           | the last one waits for the first one                                                     |
-- | IsInCycle         | an actor is one of those of some cycle                                                   |
-- | BeginsAtLeast     | the first actor of a list has the least number                                           |
-- | HasEachOnce       | no actor is in a list twice                                                              |
-- | IsDeadlocked      | some actors of the state wait for one another in a cycle                                 |
-- | HasNoDeadlock     | no state of any run of the application is deadlocked                                     |
-- | NobodyMoves       | no actor of a cycle has a step                                                           |
-- | IsForGood         | a cycle stays one after each step, while its mutexes live                                |
use Rattle.std.specs.Prelude.{◌≡◌, ◌≢◌, ◌≤◌, ℕ, ℤ, List, [], ◌∷◌, Option, None, Some, All, AllPairs, Contains}
use Rattle.fr_program.specs.declared.instr.Instr.TheVariants.{Call as Calls}
use Rattle.fr_program.specs.declared.instr.Call.TheVariants.{On}
use Rattle.fr_program.specs.declared.instr.ObjectCall.{ObjectCall}
use Rattle.fr_program.specs.declared.instr.Act.TheVariants.{Try}
use Rattle.fr_program.specs.declared.instr.Attempt.TheVariants.{Take}
use Rattle.fr_program.specs.declared.instr.SemaphoreForm.{SemaphoreForm}
use Rattle.fr_program.specs.declared.instr.Timing.TheVariants.{Waits}
use Rattle.fr_program.specs.declared.instr.BlockTime.TheVariants.{MaxDelay}
use Rattle.fr_program.specs.declared.ids.Side.TheVariants.{Inside}
use Rattle.fr_program.specs.Program.{Program}
use Rattle.fr_program.specs.Lookup.{instr_at}
use Rattle.fr_program.specs.Fault.{IsFaultless}
use Rattle.fr_rules.specs.State.{State, At, Dead, Held, place_of, content_of, kind_of}
use Rattle.fr_rules.specs.Step.{Step, taken}
use Rattle.fr_rules.specs.Run.{IsRun}
use Rattle.fr_waits.specs.declared.wait.Wait.{Wait}

-- the call is a take of this mutex, plain or recursive, that waits without limit (portMAX_DELAY)
pub record TakesWithoutLimit (call : ObjectCall) (m : ℕ) : Type 0 where
  pub form : SemaphoreForm
  pub or_else : Option ℕ
  pub object : call.object.0 ≡ m
  pub act : call.act ≡ Try (Take form) or_else
  pub timing : call.timing ≡ Waits MaxDelay

-- the actor is inside such a take of the mutex, which the holder holds, and the take can't work: the mutex is another
-- actor's, or it is a plain one that the actor itself holds
pub record WaitsFor (P : Program) (S : State) (a holder m : ℕ) : Type 0 where
  pub pc : ℕ
  pub call : ObjectCall
  pub count : ℕ
  pub at : place_of S a ≡ At pc Inside
  pub is : instr_at P a pc ≡ Some (Calls (On call))
  pub takes : TakesWithoutLimit call m
  pub held : content_of S m ≡ Held holder count
  pub refused : taken (kind_of P m) a (content_of S m) ≡ None

-- each actor of the list waits for the next one, over its mutex, and the last one for this actor
abbrev pub WaitInTurn : Program → State → List Wait → ℕ → Type 0
WaitInTurn P S [] to = Unit {0}
WaitInTurn P S (w ∷ []) to = WaitsFor P S w.actor.0 to w.mutex.0
WaitInTurn P S (w ∷ v ∷ rest) to = WaitsFor P S w.actor.0 v.actor.0 w.mutex.0 × WaitInTurn P S (v ∷ rest) to

-- the waits of the list lead from the actor to another one; with no waits they are the same
abbrev pub IsWay : Program → State → ℕ → List Wait → ℕ → Type 0
IsWay P S a [] to = a ≡ to
IsWay P S a (w ∷ rest) to = (w.actor.0 ≡ a) × WaitInTurn P S (w ∷ rest) to

-- the waits lead from the actor to one of this list
abbrev pub LeadsTo : Program → State → ℕ → List Wait → Type 0
LeadsTo P S a waits = (way : List Wait) × (w : Wait) × Contains waits w × IsWay P S a way w.actor.0

-- a cycle of one actor or more: each waits for the next one, and the last one for the first one
abbrev pub IsCycle : Program → State → List Wait → Type 0
IsCycle P S [] = ⊥
IsCycle P S (w ∷ rest) = WaitInTurn P S (w ∷ rest) w.actor.0

-- the actor is one of those of some cycle
abbrev pub IsInCycle : Program → State → ℕ → Type 0
IsInCycle P S a = (cycle : List Wait) × IsCycle P S cycle × (w : Wait) × Contains cycle w × (w.actor.0 ≡ a)

-- no actor of the list has a lesser number than the first one
abbrev pub BeginsAtLeast : List Wait → Type 0
BeginsAtLeast [] = Unit {0}
BeginsAtLeast (w ∷ rest) = All (λ v. w.actor.0 ≤ v.actor.0) rest

-- no two waits of the list are of the same actor
abbrev pub HasEachOnce : List Wait → Type 0
HasEachOnce waits = AllPairs (λ v w. v.actor.0 ≢ w.actor.0) waits

-- some actors wait for one another in a cycle
abbrev pub IsDeadlocked : Program → State → Type 0
IsDeadlocked P S = (cycle : List Wait) × IsCycle P S cycle

-- no state of any run is deadlocked
abbrev pub HasNoDeadlock : Program → Type 0
HasNoDeadlock P = (run : List State) → IsRun P run → (S : State) → Contains run S → IsDeadlocked P S → ⊥

-- no actor of a cycle has a step
abbrev pub NobodyMoves : Type 0
NobodyMoves =
    (P : Program) (S : State) (cycle : List Wait) → IsCycle P S cycle →
    (w : Wait) → Contains cycle w → (c : ℤ) (T : State) → Step P S w.actor.0 c T → ⊥

-- after a step of whichever actor a cycle is still one, as long as its mutexes live
abbrev pub IsForGood : Type 0
IsForGood =
    (P : Program) → IsFaultless P → (S : State) (cycle : List Wait) → IsCycle P S cycle →
    (b : ℕ) (c : ℤ) (T : State) → Step P S b c T →
    ((w : Wait) → Contains cycle w → content_of T w.mutex.0 ≢ Dead) → IsCycle P T cycle
