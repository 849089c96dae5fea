-- When one alternative says at least as much as another, part by part. `ClaimImplies` is for the public contract of
-- `Claim::implies`; the other words, `IsPart` among them, are for private clauses.
use Rattle.std.specs.Prelude.{◌≡◌, ◌≤ℤ◌, ℕ, ℤ, pos, List, length, slice_index_or, Any}
use Rattle.fr_notes.specs.Note.{Alternative, Note, Claim, NotHeld, Alive, Gone, HeldTimes}

-- where the first claim is true of an object, the second one is
abbrev pub ClaimImplies : Claim → Claim → Type 0
ClaimImplies (HeldTimes count) (HeldTimes other) = count ≡ other
ClaimImplies (HeldTimes count) other = ⊥
ClaimImplies claim (HeldTimes other) = ⊥
ClaimImplies claim NotHeld = Unit {0}
ClaimImplies Alive Alive = Unit {0}
ClaimImplies Gone Gone = Unit {0}
ClaimImplies claim other = ⊥

-- each number of the first range is in the second
abbrev pub IsPart : ℤ × ℤ → ℤ × ℤ → Type 0
IsPart range other = (other.0 ≤ℤ range.0) × (range.1 ≤ℤ other.1)

-- claims of as many objects, each of which implies the other one of its object
abbrev pub ClaimsImply : List Claim → List Claim → Type 0
ClaimsImply claims others =
    (length claims ≡ length others) × ((o : ℕ) → ClaimImplies (slice_index_or claims o NotHeld) (slice_index_or others o NotHeld))

-- ranges of as many variables, each of which is part of the other one of its variable
abbrev pub RangesImply : List (ℤ × ℤ) → List (ℤ × ℤ) → Type 0
RangesImply ranges others =
    (length ranges ≡ length others) × ((x : ℕ) → IsPart (slice_index_or ranges x (pos 0, pos 0)) (slice_index_or others x (pos 0, pos 0)))

-- the first alternative says at least as much as the second: the same depths, and of each object and variable as much
pub record IsStronger (n m : Alternative) : Type 0 where
  pub critical : n.critical ≡ m.critical
  pub suspended : n.suspended ≡ m.suspended
  pub claims : ClaimsImply n.claims m.claims
  pub ranges : RangesImply n.ranges m.ranges

-- the alternative says at least as much as some alternative of the note
abbrev pub ImpliesSome : Note → Alternative → Type 0
ImpliesSome other n = Any (λ m. IsStronger n m) other
