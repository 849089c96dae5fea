-- When two alternatives, of two actors, hold in one state, part by part. `CanMeet`, with the words that it uses, is for
-- the public contract of `can_meet`; `MeetsSome` is for private clauses.
--
-- | word                    | meaning                                                                          |
-- |-------------------------|----------------------------------------------------------------------------------|
-- | EachClaimMeets          | claims of as many objects, of which no pair excludes each other                  |
-- | EachRangeMeets          | ranges of as many variables, each of which has a number of the other one         |
-- | CanMeet, MeetsSome      | two alternatives exclude each other in no part; one and some of a note           |
use Rattle.std.specs.Prelude.{◌≡◌, ◌≤ℤ◌, ◌⊎◌, ℕ, ℤ, pos, List, length, slice_index_or, Any}
use Rattle.fr_notes.specs.Note.{Alternative, Note, Claim, NotHeld}
use Rattle.fr_notes.specs.Known.{ClaimsMeet, meet_of}

-- claims of as many objects, and each two of one object can be true of it
abbrev pub EachClaimMeets : List Claim → List Claim → Type 0
EachClaimMeets claims others =
    (length claims ≡ length others) × ((o : ℕ) → ClaimsMeet (slice_index_or claims o NotHeld) (slice_index_or others o NotHeld))

-- the two ranges have a number in common
abbrev pub RangesMeet : ℤ × ℤ → ℤ × ℤ → Type 0
RangesMeet one other = (meet_of one other).0 ≤ℤ (meet_of one other).1

-- ranges of as many variables, and each two of one variable have a number in common
abbrev pub EachRangeMeets : List (ℤ × ℤ) → List (ℤ × ℤ) → Type 0
EachRangeMeets ranges others =
    (length ranges ≡ length others) × ((x : ℕ) → RangesMeet (slice_index_or ranges x (pos 0, pos 0)) (slice_index_or others x (pos 0, pos 0)))

-- two alternatives, of two actors, exclude each other in no part
pub record CanMeet (n m : Alternative) : Type 0 where
  pub critical : (n.critical ≡ 0) ⊎ (m.critical ≡ 0)
  pub claims : EachClaimMeets n.claims m.claims
  pub ranges : EachRangeMeets n.ranges m.ranges

-- the alternative and some alternative of another actor's note don't exclude each other
abbrev pub MeetsSome : Note → Alternative → Type 0
MeetsSome other n = Any (λ m. CanMeet n m) other
