-- Guards: what an actor has while it is inside a call at an end of a stream or message buffer.
use Rattle.std.specs.Prelude.{ℕ, ℤ, List}
use Rattle.fr_program.specs.declared.instr.End.{End}

-- one actor alone, whoever holds a mutex, whoever is in the critical section, or whose turn it is by a variable
pub data Guard : Type 0 where
  Sole : (actor : ℕ) → Guard
  ByMutex : (mutex : ℕ) → Guard
  InCritical : Guard
  Turn : (variable : ℕ) (values : List (ℕ × ℤ)) → Guard

-- the guard of one end of one buffer
pub record EndGuard : Type 0 where
  pub buffer : ℕ
  pub end : End
  pub guard : Guard
