-- Certificates that fit an application: their notes do, and their guards name what they are for.
--
-- | word                          | meaning                                                        |
-- |-------------------------------|----------------------------------------------------------------|
-- | is_any_buffer, is_any_mutex   | a kind is one of the two buffers, one of the two mutexes       |
-- | AreRising                     | the values of a turn go by rising actors                       |
-- | GuardFits                     | the guard names things of the application                      |
-- | EndFits                       | it is the guard of an end of a buffer, and fits                |
-- | EndsFit                       | each end does, and none is listed twice                        |
-- | CertificateFits               | the notes fit, and the ends do                                 |
use Rattle.std.specs.Prelude.{◌≡◌, ◌<◌, ℕ, ℤ, List, Bool, true, false, IsTrue, length, All, AllPairs}
use Rattle.fr_program.specs.declared.parts.Kind.{Kind}
use Rattle.fr_program.specs.declared.parts.Kind.TheVariants.{Mutex, Recursive, Stream, Message}
use Rattle.fr_program.specs.Program.{Program}
use Rattle.fr_program.specs.Limits.{IsNumber}
use Rattle.fr_rules.specs.State.{kind_of}
use Rattle.fr_notes.specs.Fits.{NotesFit}
use Rattle.fr_ends.specs.Guard.{Guard, Sole, ByMutex, InCritical, Turn, EndGuard}
use Rattle.fr_ends.specs.Certificate.{Certificate, HasDistinctTurns}

-- whether this is a stream or a message buffer
abbrev pub is_any_buffer : Kind → Bool
is_any_buffer (Stream size) = true
is_any_buffer (Message size) = true
is_any_buffer kind = false

-- whether this is a mutex, a plain or a recursive one
abbrev pub is_any_mutex : Kind → Bool
is_any_mutex Mutex = true
is_any_mutex Recursive = true
is_any_mutex kind = false

-- the values of a turn go by rising actors, so that no actor has two of them
abbrev pub AreRising : List (ℕ × ℤ) → Type 0
AreRising values = AllPairs (λ v w. v.0 < w.0) values

-- the guard names an actor, a mutex, or a variable and actors of the application, with distinct turn values of 64 bits,
-- rising by actor
abbrev pub GuardFits : Program → Guard → Type 0
GuardFits P (Sole actor) = actor < length P.actors
GuardFits P (ByMutex mutex) = (mutex < length P.objects) × IsTrue (is_any_mutex (kind_of P mutex))
GuardFits P InCritical = Unit {0}
GuardFits P (Turn x values) =
    (x < length P.variables) × All (λ v. (v.0 < length P.actors) × IsNumber v.1) values × HasDistinctTurns (Turn x values)
    × AreRising values

-- a guard of a stream or message buffer, which fits
pub record EndFits (P : Program) (e : EndGuard) : Type 0 where
  pub object : e.buffer < length P.objects
  pub buffer : IsTrue (is_any_buffer (kind_of P e.buffer))
  pub guard : GuardFits P e.guard

-- the two guards are of one end of one buffer
abbrev pub AreOfOneEnd : EndGuard → EndGuard → Type 0
AreOfOneEnd e f = (e.buffer ≡ f.buffer) × (e.end ≡ f.end)

-- each end fits, and none stands twice
abbrev pub EndsFit : Program → List EndGuard → Type 0
EndsFit P ends = All (λ e. EndFits P e) ends × AllPairs (λ e f. AreOfOneEnd e f → ⊥) ends

-- a certificate that fits the application
abbrev pub CertificateFits : Program → Certificate → Type 0
CertificateFits P C = NotesFit P C.notes × EndsFit P C.ends
