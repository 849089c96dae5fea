-- Worked notes: when a claim is true of a mutex, and when two alternatives hold in one state.
--
-- | word               | meaning                                                                           |
-- |--------------------|-----------------------------------------------------------------------------------|
-- | WorkedClaims       | claims of actor 0 about an object                                                 |
-- | two_tasks          | tasks 0 and 1, a variable x from 0 to 2 and a mutex                               |
-- | says               | an alternative by its two depths, its claim of the mutex and its range of x       |
-- | Together           | notes of one alternative, one of task 0 and one of task 1, are together           |
-- | WorkedTogether     | pairs for which that is so, and pairs for which it isn't                          |
use Rattle.std.specs.Prelude.{ℕ, ℤ, pos, [], ◌∷◌, None, true}
use Rattle.fr_program.specs.declared.instr.Instr.TheVariants.{Goto}
use Rattle.fr_program.specs.declared.parts.Kind.TheVariants.{Mutex}
use Rattle.fr_program.specs.declared.parts.ActorKind.TheVariants.{Task}
use Rattle.fr_program.specs.Program.{Program, ActorOf}
use Rattle.fr_rules.specs.State.{State, Dead, Free, Held}
use Rattle.fr_notes.specs.declared.claim.Claim.{Claim}
use Rattle.fr_notes.specs.declared.claim.Claim.TheVariants.{NotHeld, Alive, Gone, HeldTimes}
use Rattle.fr_notes.specs.Note.{Alternative, Meets, Holds}
use Rattle.fr_notes.specs.Compare.{AreTogether}

-- claims of actor 0 about an object
pub record WorkedClaims : Type 0 where
  pub held_so_often : Meets 0 (HeldTimes 2) (Held 0 2)
  pub held_more_often : Meets 0 (HeldTimes 1) (Held 0 2) → ⊥
  pub held_by_another : Meets 0 (HeldTimes 1) (Held 1 1) → ⊥
  pub not_held_but_by_another : Meets 0 NotHeld (Held 1 1)
  pub not_held_and_dead : Meets 0 NotHeld Dead
  pub not_held_but_own : Meets 0 NotHeld (Held 0 1) → ⊥
  pub alive_and_free : Meets 0 Alive Free
  pub alive_but_dead : Meets 0 Alive Dead → ⊥
  pub alive_but_own : Meets 0 Alive (Held 0 1) → ⊥
  pub gone_and_dead : Meets 0 Gone Dead
  pub gone_but_free : Meets 0 Gone Free → ⊥
  -- the note `never` holds of nobody
  pub never_holds : (a : ℕ) (S : State) → Holds [] a S → ⊥

-- a task that goes round
abbrev pub goes_round : ActorOf
goes_round = record { name = []; kind = Task; code = Goto 0 ∷ [] }

-- two of them, a variable x from 0 to 2 and a mutex
abbrev pub two_tasks : Program
two_tasks = record {
  variables = record { name = []; lo = pos 0; hi = pos 2; init = pos 0; owner = None } ∷ [];
  objects = record { name = []; kind = Mutex; live = true } ∷ [];
  actors = goes_round ∷ goes_round ∷ [];
}

-- an alternative, by its depths, its claim of the mutex and its range of x
abbrev pub says : ℕ → ℕ → Claim → ℤ × ℤ → Alternative
says critical suspended claim range = record { critical = critical; suspended = suspended; claims = claim ∷ []; ranges = range ∷ [] }

-- the declared range of x
abbrev pub any : ℤ × ℤ
any = (pos 0, pos 2)

-- a note of one alternative of task 0 and another of task 1 are together
abbrev pub Together : Alternative → Alternative → Type 0
Together n m = AreTogether two_tasks 0 (n ∷ []) 1 (m ∷ [])

-- pairs of alternatives
pub record WorkedTogether : Type 0 where
  -- suspending the scheduler excludes nobody, a critical section does
  pub both_suspended : Together (says 0 1 NotHeld any) (says 0 1 NotHeld any)
  pub both_in_critical : Together (says 1 0 NotHeld any) (says 2 0 NotHeld any) → ⊥
  pub one_in_critical : Together (says 1 0 NotHeld any) (says 0 0 NotHeld any)
  pub both_hold : Together (says 0 0 (HeldTimes 1) any) (says 0 0 (HeldTimes 1) any) → ⊥
  pub one_holds : Together (says 0 0 (HeldTimes 1) any) (says 0 0 Alive any)
  pub live_and_dead : Together (says 0 0 Alive any) (says 0 0 Gone any) → ⊥
  pub held_and_dead : Together (says 0 0 (HeldTimes 1) any) (says 0 0 Gone any) → ⊥
  pub ranges_meet : Together (says 0 0 NotHeld (pos 0, pos 1)) (says 0 0 NotHeld (pos 1, pos 2))
  pub ranges_apart : Together (says 0 0 NotHeld (pos 0, pos 0)) (says 0 0 NotHeld (pos 1, pos 2)) → ⊥
  -- a note and itself, of one actor: that asks for two
  pub one_actor : AreTogether two_tasks 0 (says 0 0 NotHeld any ∷ []) 0 (says 0 0 NotHeld any ∷ []) → ⊥
