-- Notes that fit an application: those that can be built for it.
--
-- | word                          | meaning                                                           |
-- |-------------------------------|-------------------------------------------------------------------|
-- | most_depth, most_alternatives | the greatest depth or count, the most alternatives of a note      |
-- | CanClaim, ClaimsFit           | what can be said of a kind of object; claims that fit the objects |
-- | IsWithinDeclared, RangesFit   | a range inside the declared one; ranges that fit the variables    |
-- | AlternativeFits, NoteFits     | an alternative, a note that can be built for the application      |
-- | NotesFit                      | one note for each point, and each of them fits                    |
use Rattle.std.specs.Prelude.{◌≡◌, ◌≤◌, ◌≤ℤ◌, ℕ, ℤ, pos, List, length, All, slice_index_or}
use Rattle.fr_program.specs.declared.parts.Kind.{Kind}
use Rattle.fr_program.specs.declared.parts.Kind.TheVariants.{Mutex, Recursive}
use Rattle.fr_program.specs.Program.{Program}
use Rattle.fr_program.specs.Lookup.{variable_at}
use Rattle.fr_program.specs.Points.{points_of}
use Rattle.fr_rules.specs.State.{kind_of}
use Rattle.fr_notes.specs.Note.{Alternative, Note, Claim, NotHeld, Alive, Gone, HeldTimes, range_of}

-- the most that a depth or a count in a note can be
abbrev pub most_depth : ℕ
most_depth = 255

-- how many alternatives a note has at the most
abbrev pub most_alternatives : ℕ
most_alternatives = 4

-- what can be said of an object of this kind: a mutex is held once, a recursive one 1 to 255 times, nothing else ever
abbrev pub CanClaim : Kind → Claim → Type 0
CanClaim kind NotHeld = Unit {0}
CanClaim kind Alive = Unit {0}
CanClaim kind Gone = Unit {0}
CanClaim Mutex (HeldTimes count) = count ≡ 1
CanClaim Recursive (HeldTimes count) = (1 ≤ count) × (count ≤ most_depth)
CanClaim kind (HeldTimes count) = ⊥

-- a claim for each object, and each can be said of it
abbrev pub ClaimsFit : Program → List Claim → Type 0
ClaimsFit P claims = (length claims ≡ length P.objects) × ((o : ℕ) → CanClaim (kind_of P o) (slice_index_or claims o NotHeld))

-- the range is inside the declared range of this variable
abbrev pub IsWithinDeclared : Program → ℕ → ℤ × ℤ → Type 0
IsWithinDeclared P x range = ((variable_at P x).lo ≤ℤ range.0) × (range.1 ≤ℤ (variable_at P x).hi)

-- a range for each variable, and each is inside the declared one
abbrev pub RangesFit : Program → List (ℤ × ℤ) → Type 0
RangesFit P ranges = (length ranges ≡ length P.variables) × ((x : ℕ) → IsWithinDeclared P x (slice_index_or ranges x (pos 0, pos 0)))

-- an alternative that can be built for the application: its claims fit the objects, and its ranges, each with its ends
-- in order, the variables
pub record AlternativeFits (P : Program) (n : Alternative) : Type 0 where
  pub critical : n.critical ≤ most_depth
  pub suspended : n.suspended ≤ most_depth
  pub claims : ClaimsFit P n.claims
  pub ranges : RangesFit P n.ranges
  pub order : (x : ℕ) → (range_of n x).0 ≤ℤ (range_of n x).1

-- at most four alternatives, each of which fits
abbrev pub NoteFits : Program → Note → Type 0
NoteFits P note = (length note ≤ most_alternatives) × All (λ n. AlternativeFits P n) note

-- one note for each point, and each of them fits
abbrev pub NotesFit : Program → List Note → Type 0
NotesFit P notes = (length notes ≡ length (points_of P)) × All (λ note. NoteFits P note) notes
