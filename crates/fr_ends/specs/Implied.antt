-- For private clauses: when a note implies a guard, alternative by alternative.
--
-- | word          | meaning                                                                              |
-- |---------------|--------------------------------------------------------------------------------------|
-- | SaysGuard     | an alternative says that the guard holds of an actor                                 |
-- | NoteSays      | each alternative of a note does                                                      |
-- | SaysListed    | a guard is there, and each alternative says that it holds                            |
-- | KeepsEnd      | a call isn't at an end, or each alternative says that the end's guard holds          |
use Rattle.std.specs.Prelude.{◌≡◌, ◌<◌, ℕ, ℤ, List, Option, Some, IsTrue, All}
use Rattle.fr_program.specs.declared.instr.ObjectCall.{ObjectCall}
use Rattle.fr_program.specs.declared.instr.End.{End}
use Rattle.fr_rules.specs.Rule.{is_at_end}
use Rattle.fr_notes.specs.Note.{Alternative, Note, claim_of, range_of}
use Rattle.fr_notes.specs.Known.{is_held}
use Rattle.fr_ends.specs.Guard.{Guard, Sole, ByMutex, InCritical, Turn, EndGuard}
use Rattle.fr_ends.specs.Certificate.{value_for, guard_for}

-- the alternative says that the guard holds of the actor: it is that actor, holds the mutex, is in the critical section,
-- or the variable can have the actor's value alone
unfoldable pub SaysGuard : Alternative → ℕ → Guard → Type 0
SaysGuard n a (Sole actor) = a ≡ actor
SaysGuard n a (ByMutex mutex) = IsTrue (is_held (claim_of n mutex))
SaysGuard n a InCritical = 0 < n.critical
SaysGuard n a (Turn x values) = (v : ℤ) × (value_for values a ≡ Some v) × (range_of n x ≡ (v, v))

-- each alternative of the note says so
abbrev pub NoteSays : Note → ℕ → Guard → Type 0
NoteSays note a g = All (λ n. SaysGuard n a g) note

-- the guard is there, and each alternative of the note says that it holds of the actor
abbrev pub SaysListed : Note → ℕ → Option Guard → Type 0
SaysListed note a listed = (g : Guard) × (listed ≡ Some g) × NoteSays note a g

-- what an actor with this note, inside this call, owes at this end
abbrev pub KeepsEnd : List EndGuard → Note → ℕ → End → ObjectCall → Type 0
KeepsEnd ends note a end call = IsTrue (is_at_end end call.act) → SaysListed note a (guard_for ends call.object.0 end)
