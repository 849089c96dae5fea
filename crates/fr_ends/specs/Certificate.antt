-- Certificates: a note for each point, and guards for the ends of buffers.
--
-- | word               | meaning                                                                     |
-- |--------------------|-----------------------------------------------------------------------------|
-- | Certificate        | the notes, in the order of the points, and the guards of ends               |
-- | value_for          | the turn value that is listed for an actor                                  |
-- | HasGuard           | the guard holds of an actor in a state                                      |
-- | HasDistinctTurns   | no two actors have one turn value, so no two actors have one guard          |
-- | guard_for          | the guard that is listed for an end                                         |
use Rattle.std.specs.Prelude.{◌≡◌, ◌<◌, ℕ, ℤ, List, [], ◌∷◌, Option, None, Some, Bool, true, false, ◌&&◌, nat_eq, if◌then◌else◌, All}
use Rattle.fr_rules.specs.State.{State, value_of, content_of, depth_of, count_held}
use Rattle.fr_program.specs.declared.instr.End.{End}
use Rattle.fr_program.specs.declared.instr.End.TheVariants.{Writer, Reader}
pub use Rattle.fr_ends.specs.Guard.{Guard, Sole, ByMutex, InCritical, Turn, EndGuard}
use Rattle.fr_notes.specs.Note.{Note}

-- a note for each point, in the order of the points' numbers, and the guards of ends
pub record Certificate : Type 0 where
  pub notes : List Note
  pub ends : List EndGuard

-- the turn value that is listed for an actor; an actor that isn't listed never has the guard
abbrev pub value_for : List (ℕ × ℤ) → ℕ → Option ℤ
value_for [] a = None
value_for (v ∷ vs) a = if nat_eq v.0 a then Some v.1 else value_for vs a

-- the guard holds of the actor in this state
abbrev pub HasGuard : Guard → ℕ → State → Type 0
HasGuard (Sole actor) a S = a ≡ actor
HasGuard (ByMutex mutex) a S = 0 < count_held a (content_of S mutex)
HasGuard InCritical a S = 0 < depth_of S a
HasGuard (Turn x values) a S = value_for values a ≡ Some (value_of S x)

-- no two actors have the same turn value
abbrev pub HasDistinctTurns : Guard → Type 0
HasDistinctTurns (Turn x values) = (a b : ℕ) (v : ℤ) → value_for values a ≡ Some v → value_for values b ≡ Some v → a ≡ b
HasDistinctTurns guard = Unit {0}

-- the same, of each guard in the list
abbrev pub AllHaveDistinctTurns : List EndGuard → Type 0
AllHaveDistinctTurns ends = All (λ e. HasDistinctTurns e.guard) ends

-- whether these are the same end
abbrev pub same_end : End → End → Bool
same_end Writer Writer = true
same_end Writer Reader = false
same_end Reader Writer = false
same_end Reader Reader = true

-- the guard that is listed for an end of a buffer
abbrev pub guard_for : List EndGuard → ℕ → End → Option Guard
guard_for [] buffer end = None
guard_for (e ∷ es) buffer end = if nat_eq e.buffer buffer && same_end e.end end then Some e.guard else guard_for es buffer end
