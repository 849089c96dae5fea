-- Worked states: a well-formed state and, for each clause of that definition, one that isn't; what each kind of object
-- can have and what it can't; new objects; and a start.
--
-- | word                          | meaning                                                                  |
-- |-------------------------------|--------------------------------------------------------------------------|
-- | one_of                        | a task with one instruction, and an object of this kind, live or dead    |
-- | parts                         | a state by its five lists                                                |
-- | Fits, WorkedFormed            | a state is well formed; states that are, and states that aren't          |
-- | CanBe, WorkedContents         | what an object of this kind can have; contents that fit, and that don't  |
-- | WorkedNew                     | a new object of each kind                                                |
-- | WorkedStart                   | a start with an object that is declared live, and one declared dead      |
use Rattle.std.specs.Prelude.{◌≡◌, ℕ, ℤ, pos, List, [], ◌∷◌, Option, None, Some, Bool, true, false}
use Rattle.fr_program.specs.declared.instr.Instr.TheVariants.{Goto}
use Rattle.fr_program.specs.declared.ids.Side.TheVariants.{Before, Inside}
use Rattle.fr_program.specs.declared.parts.Kind.{Kind}
use Rattle.fr_program.specs.declared.parts.Kind.TheVariants.{Queue, Binary, Counting, Mutex, Recursive, Stream, Message}
use Rattle.fr_program.specs.declared.parts.ActorKind.TheVariants.{Task}
use Rattle.fr_program.specs.Program.{Program}
use Rattle.fr_rules.specs.State.{State, Place, At, Done, Content, Dead, Values, Count, Free, Held, Bytes, Lengths, CanHave, IsWellFormed, new_content, start}

-- a task that goes round, a variable x, and an object of this kind, live at the start or dead
abbrev pub one_of : Kind → Bool → Program
one_of kind live = record {
  variables = record { name = []; lo = pos 0; hi = pos 9; init = pos 4; owner = None } ∷ [];
  objects = record { name = []; kind = kind; live = live } ∷ [];
  actors = record { name = []; kind = Task; code = Goto 0 ∷ [] } ∷ [];
}

-- a state by its five parts
abbrev pub parts : List Place → List ℤ → List Content → Option (ℕ × ℕ) → List ℕ → State
parts places values objects critical suspended =
    record { places = places; values = values; objects = objects; critical = critical; suspended = suspended }

-- the state is well formed, with a mutex for an object
abbrev pub Fits : State → Type 0
Fits S = IsWellFormed (one_of Mutex true) S

-- well-formed states, and for each clause one that isn't
pub record WorkedFormed : Type 0 where
  pub well : Fits (parts (At 0 Before ∷ []) (pos 4 ∷ []) (Held 0 1 ∷ []) (Some (0, 1)) (0 ∷ []))
  -- a variable may be out of its range, and an actor may have ended
  pub variable_out : Fits (parts (Done ∷ []) (pos 10 ∷ []) (Free ∷ []) None (0 ∷ []))
  pub actor_missing : Fits (parts [] (pos 4 ∷ []) (Free ∷ []) None (0 ∷ [])) → ⊥
  pub suspension_missing : Fits (parts (At 0 Before ∷ []) (pos 4 ∷ []) (Free ∷ []) None []) → ⊥
  pub variable_missing : Fits (parts (At 0 Before ∷ []) [] (Free ∷ []) None (0 ∷ [])) → ⊥
  pub object_missing : Fits (parts (At 0 Before ∷ []) (pos 4 ∷ []) [] None (0 ∷ [])) → ⊥
  pub past_the_code : Fits (parts (At 1 Before ∷ []) (pos 4 ∷ []) (Free ∷ []) None (0 ∷ [])) → ⊥
  pub inside_no_call : Fits (parts (At 0 Inside ∷ []) (pos 4 ∷ []) (Free ∷ []) None (0 ∷ [])) → ⊥
  pub content_of_another_kind : Fits (parts (At 0 Before ∷ []) (pos 4 ∷ []) (Count 0 ∷ []) None (0 ∷ [])) → ⊥
  pub nobody_in_critical : Fits (parts (At 0 Before ∷ []) (pos 4 ∷ []) (Free ∷ []) (Some (1, 1)) (0 ∷ [])) → ⊥
  pub critical_at_zero : Fits (parts (At 0 Before ∷ []) (pos 4 ∷ []) (Free ∷ []) (Some (0, 0)) (0 ∷ [])) → ⊥

-- an object of this kind can have this, where there is one actor
abbrev pub CanBe : Kind → Content → Type 0
CanBe kind content = CanHave (one_of kind true) kind content

-- what fits a kind, at its limits, and what doesn't
pub record WorkedContents : Type 0 where
  pub full_queue : CanBe (Queue (pos 1) (pos 0) (pos 9)) (Values (pos 9 ∷ []))
  pub queue_too_long : CanBe (Queue (pos 1) (pos 0) (pos 9)) (Values (pos 1 ∷ pos 2 ∷ [])) → ⊥
  pub queue_value_out : CanBe (Queue (pos 1) (pos 0) (pos 9)) (Values (pos 10 ∷ [])) → ⊥
  pub binary_at_1 : CanBe Binary (Count 1)
  pub binary_at_2 : CanBe Binary (Count 2) → ⊥
  pub counting_at_its_size : CanBe (Counting (pos 2) (pos 0)) (Count 2)
  pub counting_above : CanBe (Counting (pos 2) (pos 0)) (Count 3) → ⊥
  pub mutex_held_once : CanBe Mutex (Held 0 1)
  pub mutex_held_twice : CanBe Mutex (Held 0 2) → ⊥
  pub mutex_held_by_nobody : CanBe Mutex (Held 1 1) → ⊥
  pub recursive_held_twice : CanBe Recursive (Held 0 2)
  pub recursive_held_no_time : CanBe Recursive (Held 0 0) → ⊥
  pub recursive_held_by_nobody : CanBe Recursive (Held 1 1) → ⊥
  pub full_stream : CanBe (Stream (pos 8)) (Bytes 8)
  pub stream_above : CanBe (Stream (pos 8)) (Bytes 9) → ⊥
  pub full_message_buffer : CanBe (Message (pos 8)) (Lengths (5 ∷ 3 ∷ []))
  pub messages_above : CanBe (Message (pos 8)) (Lengths (5 ∷ 4 ∷ [])) → ⊥
  pub empty_message : CanBe (Message (pos 8)) (Lengths (0 ∷ [])) → ⊥
  pub dead_object : CanBe (Stream (pos 8)) Dead

-- a new object of each kind
pub record WorkedNew : Type 0 where
  pub queue : new_content (Queue (pos 2) (pos 0) (pos 9)) ≡ Values []
  pub binary : new_content Binary ≡ Count 0
  pub counting : new_content (Counting (pos 3) (pos 2)) ≡ Count 2
  pub mutex : new_content Mutex ≡ Free
  pub recursive : new_content Recursive ≡ Free
  pub stream : new_content (Stream (pos 8)) ≡ Bytes 0
  pub message : new_content (Message (pos 16)) ≡ Lengths []

-- starts
pub record WorkedStart : Type 0 where
  pub declared_live : start (one_of (Counting (pos 3) (pos 2)) true) ≡ parts (At 0 Before ∷ []) (pos 4 ∷ []) (Count 2 ∷ []) None (0 ∷ [])
  pub declared_dead : start (one_of (Counting (pos 3) (pos 2)) false) ≡ parts (At 0 Before ∷ []) (pos 4 ∷ []) (Dead ∷ []) None (0 ∷ [])
