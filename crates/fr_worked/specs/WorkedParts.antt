-- Worked parts of notes: counts, lives and ranges that can be said and that can't, and notes of which one implies the
-- other.
--
-- | word                        | meaning                                                                            |
-- |-----------------------------|------------------------------------------------------------------------------------|
-- | four_objects                | a mutex, a recursive mutex, a queue, a stream buffer, and a variable x from 0 to 2 |
-- | object, held                | the object with this number, said to be held so often                              |
-- | IsRefusedCount, IsCountable | a count that is none of the object, and one that is                                |
-- | IsTorn, IsWhole             | objects that are said both live or held and dead, and objects that aren't          |
-- | IsPast, IsKept              | a range of x that isn't inside its declared one, and one that is                   |
-- | WorkedFaults                | parts that have a fault, and parts that have none                       |
-- | Implied                     | a note with one alternative implies one with another                               |
-- | WorkedImplied               | pairs for which that is so, and pairs for which it isn't                           |
use Rattle.std.specs.Prelude.{◌≡◌, ℕ, ℤ, pos, negsuc, List, [], ◌∷◌, None, true}
use Rattle.fr_program.specs.declared.ids.ObjId.{ObjId}
use Rattle.fr_program.specs.declared.range.Range.{Range}
use Rattle.fr_program.specs.declared.parts.Kind.{Kind}
use Rattle.fr_program.specs.declared.parts.Kind.TheVariants.{Mutex, Recursive, Queue, Stream}
use Rattle.fr_program.specs.Program.{Program, ObjectOf}
use Rattle.fr_notes.specs.declared.note.NoteParts.{NoteParts}
use Rattle.fr_notes.specs.declared.fault.NoteFault.TheVariants.{Count, Lives, Span}
use Rattle.fr_notes.specs.declared.claim.Claim.TheVariants.{NotHeld, Alive, Gone, HeldTimes}
use Rattle.fr_notes.specs.Note.{Alternative}
use Rattle.fr_notes.specs.Parts.{HasFault}
use Rattle.fr_notes.specs.Compare.{Implies}
use Rattle.fr_worked.specs.WorkedNotes.{two_tasks, says, any}

-- an object of this kind that is live at first
abbrev pub live : Kind → ObjectOf
live kind = record { name = []; kind = kind; live = true }

-- a mutex, a recursive mutex, a queue and a stream buffer, and a variable x from 0 to 2
abbrev pub four_objects : Program
four_objects = record {
  variables = record { name = []; lo = pos 0; hi = pos 2; init = pos 0; owner = None } ∷ [];
  objects = live Mutex ∷ live Recursive ∷ live (Queue (pos 4) (pos 0) (pos 9)) ∷ live (Stream (pos 8)) ∷ [];
  actors = [];
}

-- the object with this number
abbrev pub object : ℕ → ObjId
object o = record { 0 = o }

-- it is held so often
abbrev pub held : ℕ → ℕ → List (ObjId × ℕ)
held o count = (object o, count) ∷ []

-- parts that say so have a fault in their counts
abbrev pub IsRefusedCount : ℕ → ℕ → Type 0
IsRefusedCount o count = (parts : NoteParts) → parts.held.items ≡ held o count → HasFault four_objects parts Count

-- or they have none
abbrev pub IsCountable : ℕ → ℕ → Type 0
IsCountable o count = (parts : NoteParts) → parts.held.items ≡ held o count → HasFault four_objects parts Count → ⊥

-- parts that name these objects as held, live and dead have a fault in their lives
abbrev pub IsTorn : List (ObjId × ℕ) → List ObjId → List ObjId → Type 0
IsTorn hs ls ds = (parts : NoteParts) → parts.held.items ≡ hs → parts.live.items ≡ ls → parts.dead.items ≡ ds → HasFault four_objects parts Lives

-- or they have none
abbrev pub IsWhole : List (ObjId × ℕ) → List ObjId → List ObjId → Type 0
IsWhole hs ls ds = (parts : NoteParts) → parts.held.items ≡ hs → parts.live.items ≡ ls → parts.dead.items ≡ ds → HasFault four_objects parts Lives → ⊥

-- parts that give x this range have a fault in their ranges
abbrev pub IsPast : ℤ → ℤ → Type 0
IsPast lo hi = (parts : NoteParts) (range : Range) → range.lo ≡ lo → range.hi ≡ hi → parts.range.items ≡ (record { 0 = 0 }, range) ∷ [] → HasFault four_objects parts Span

-- or they have none
abbrev pub IsKept : ℤ → ℤ → Type 0
IsKept lo hi = (parts : NoteParts) (range : Range) → range.lo ≡ lo → range.hi ≡ hi → parts.range.items ≡ (record { 0 = 0 }, range) ∷ [] → HasFault four_objects parts Span → ⊥

-- parts that have a fault, and parts that have none
pub record WorkedFaults : Type 0 where
  pub mutex_once : IsCountable 0 1
  pub mutex_twice : IsRefusedCount 0 2
  pub mutex_not_at_all : IsRefusedCount 0 0
  pub recursive_at_most : IsCountable 1 255
  pub recursive_once_more : IsRefusedCount 1 256
  pub recursive_not_at_all : IsRefusedCount 1 0
  pub queue_held : IsRefusedCount 2 1
  pub buffer_held : IsRefusedCount 3 1
  pub no_such_object : IsRefusedCount 4 1
  pub live_and_dead : IsTorn [] (object 3 ∷ []) (object 3 ∷ [])
  pub held_and_dead : IsTorn (held 0 1) [] (object 0 ∷ [])
  pub held_and_live : IsWhole (held 0 1) (object 0 ∷ []) []
  pub another_dead : IsWhole (held 0 1) (object 3 ∷ []) (object 2 ∷ [])
  pub past_above : IsPast (pos 0) (pos 3)
  pub past_below : IsPast (negsuc 0) (pos 2)
  pub as_declared : IsKept (pos 0) (pos 2)
  pub one_value : IsKept (pos 1) (pos 1)

-- a note with one alternative implies one with another
abbrev pub Implied : Alternative → Alternative → Type 0
Implied n m = Implies two_tasks (n ∷ []) (m ∷ [])

-- pairs of notes
pub record WorkedImplied : Type 0 where
  pub implied_by_more : Implied (says 0 0 Alive (pos 1, pos 1)) (says 0 0 NotHeld (pos 0, pos 1))
  pub wider_range : Implied (says 0 0 NotHeld (pos 0, pos 1)) (says 0 0 NotHeld (pos 1, pos 1)) → ⊥
  pub unsaid_live : Implied (says 0 0 NotHeld any) (says 0 0 Alive any) → ⊥
  pub held_is_not_unheld : Implied (says 0 0 (HeldTimes 1) any) (says 0 0 NotHeld any) → ⊥
  pub another_critical_depth : Implied (says 1 0 NotHeld any) (says 0 0 NotHeld any) → ⊥
  pub another_suspension_depth : Implied (says 0 1 NotHeld any) (says 0 0 NotHeld any) → ⊥
  pub gone_is_not_held : Implied (says 0 0 Gone any) (says 0 0 NotHeld any)
  pub never_implies : Implies two_tasks [] (says 0 0 NotHeld any ∷ [])
  pub never_is_implied : Implies two_tasks (says 0 0 NotHeld any ∷ []) [] → ⊥
