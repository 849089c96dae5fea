-- What a note says of an actor, in a state.
--
-- | word              | meaning                                                                                 |
-- |-------------------|-----------------------------------------------------------------------------------------|
-- | Alternative       | exact depths, a claim for each object, a range for each variable                        |
-- | Note              | a list of alternatives, of which one holds; the empty list never holds                  |
-- | claim_of, range_of| what an alternative says of an object, of a variable                                    |
-- | Meets, Within     | a claim is true of an object, a number lies in a range                                  |
-- | HoldsOne, Holds   | an alternative holds of an actor in a state, a note does                                |
use Rattle.std.specs.Prelude.{◌≡◌, ◌≢◌, ◌≤ℤ◌, ℕ, ℤ, pos, List, slice_index_or, Contains}
pub use Rattle.fr_notes.specs.declared.claim.Claim.{Claim}
pub use Rattle.fr_notes.specs.declared.claim.Claim.TheVariants.{NotHeld, Alive, Gone, HeldTimes}
use Rattle.fr_rules.specs.State.{State, Content, Dead, Held, value_of, content_of, suspension_of, depth_of, count_held}

-- one alternative; each list goes in the order of the numbers, and a range has both of its ends
pub record Alternative : Type 0 where
  -- the actor's depth in the critical section, 0 where it isn't in it, and its suspension depth
  pub critical : ℕ
  pub suspended : ℕ
  pub claims : List Claim
  pub ranges : List (ℤ × ℤ)

-- the alternatives, of which one holds; `never` is the empty list
abbrev pub Note : Type 0
Note = List Alternative

-- what the alternative says of this object
abbrev pub claim_of : Alternative → ℕ → Claim
claim_of n o = slice_index_or n.claims o NotHeld

-- the range that the alternative gives this variable, which is the declared one where its writer named none
abbrev pub range_of : Alternative → ℕ → ℤ × ℤ
range_of n x = slice_index_or n.ranges x (pos 0, pos 0)

-- the claim is true of the object for this actor; so an actor holds exactly the mutexes claimed held, so often
abbrev pub Meets : ℕ → Claim → Content → Type 0
Meets a NotHeld content = count_held a content ≡ 0
Meets a Alive content = (content ≢ Dead) × (count_held a content ≡ 0)
Meets a Gone content = content ≡ Dead
Meets a (HeldTimes count) content = content ≡ Held a count

-- the number lies in the range
abbrev pub Within : ℤ × ℤ → ℤ → Type 0
Within range v = (range.0 ≤ℤ v) × (v ≤ℤ range.1)

-- the alternative holds of this actor in this state
pub record HoldsOne (n : Alternative) (a : ℕ) (S : State) : Type 0 where
  pub critical : depth_of S a ≡ n.critical
  pub suspended : suspension_of S a ≡ n.suspended
  pub objects : (o : ℕ) → Meets a (claim_of n o) (content_of S o)
  pub variables : (x : ℕ) → Within (range_of n x) (value_of S x)

-- the note holds of this actor in this state: one of its alternatives does
abbrev pub Holds : Note → ℕ → State → Type 0
Holds note a S = (n : Alternative) × Contains note n × HoldsOne n a S
