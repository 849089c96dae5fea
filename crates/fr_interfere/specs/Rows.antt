-- The lists of an index with the hulls of their points. `AreHullsOf` is for the public contracts of `Hulls` and
-- `Interference`; the other words are for private clauses and for what it says.
--
-- | word              | meaning                                                                                     |
-- |-------------------|---------------------------------------------------------------------------------------------|
-- | AreListed         | rising numbers of points                                                                    |
-- | IsBlock           | such numbers, whose points are all under the block's hull                                   |
-- | IsInSome          | the point's number is in one of the blocks                                                  |
-- | IsRun, IsInRun    | places of a list from one up to another; a place is in one of such runs                     |
-- | IsBlockAt         | a block that has the points of the run at a place                                           |
-- | IsRow             | a hull of the points of a list, and blocks that have each of them                           |
-- | AreRows,          | so is each row that there is for one of the lists; the hulls of an index's points           |
-- |   AreHullsOf      |                                                                                             |
-- | WritesOne,        | an effect writes a variable; each point with such an effect is in one of the blocks         |
-- |   HaveWriters     |                                                                                             |
-- | AreClosed, IsTold | actors whose writing points disturb no note; what is known of a block's actor               |
use Rattle.std.specs.Prelude.{◌≡◌, ◌<◌, ◌≤◌, ◌⊎◌, ℕ, List, Option, Some, Bool, true, false, All, AllPairs, Any, Contains, length, slice_get, slice_index_or}
use Rattle.fr_program.specs.declared.ids.ActorId.{ActorId}
use Rattle.fr_program.specs.declared.ids.Point.{Point}
use Rattle.fr_program.specs.Program.{Program}
use Rattle.fr_program.specs.Lookup.{IsPoint}
use Rattle.fr_program.specs.Points.{points_of}
use Rattle.fr_notes.specs.Note.{Note}
use Rattle.fr_interfere.specs.declared.rows.Block.{Block}
use Rattle.fr_interfere.specs.declared.rows.Row.{Row}
use Rattle.fr_interfere.specs.declared.rows.Run.{Run}
use Rattle.fr_interfere.specs.declared.rows.Hulls.{Hulls}
use Rattle.fr_effects.specs.declared.effects.Effect.{Effect}
use Rattle.fr_effects.specs.Effects.{effect_at, target_of}
use Rattle.fr_interfere.specs.Hull.{AreUnder}
use Rattle.fr_effects.specs.Index.{IndexOf, list_at}
use Rattle.fr_interfere.specs.Spoilers.{IsListed}
use Rattle.fr_effects.specs.Undisturbed.{Undisturbed}

-- rising numbers of points
pub record AreListed (P : Program) (numbers : List ℕ) : Type 0 where
  pub rising : AllPairs (λ j k. j < k) numbers
  pub below : All (λ k. k < length (points_of P)) numbers

-- such numbers, whose points are all under the hull
pub record IsBlock (P : Program) (notes : List Note) (b : Block) : Type 0 where
  pub listed : AreListed P b.numbers.items
  pub under : AreUnder P notes b.hull b.numbers.items

-- the point's number is in one of the blocks
abbrev pub IsInSome : Program → List Block → Point → Type 0
IsInSome P blocks q = Any (λ b. IsListed P b.numbers.items q) blocks

-- the run has one or more places of the list
abbrev pub IsRun : List ℕ → Run → Type 0
IsRun numbers r = (r.from < r.behind) × (r.behind ≤ length numbers)

-- the place is in one of the runs
abbrev pub IsInRun : List Run → ℕ → Type 0
IsInRun runs j = Any (λ r. (r.from ≤ j) × (j < r.behind)) runs

-- the block has the points at the places of the run
pub record HasRun (P : Program) (notes : List Note) (numbers : List ℕ) (r : Run) (b : Block) : Type 0 where
  pub block : IsBlock P notes b
  pub each : (j : ℕ) → r.from ≤ j → j < r.behind → Contains b.numbers.items (slice_index_or numbers j 0)

-- so it is of the run at this place
abbrev pub IsBlockAt : Program → List Note → List ℕ → List Run → ℕ → Block → Type 0
IsBlockAt P notes numbers runs k b = (r : Run) → slice_get runs k ≡ Some r → HasRun P notes numbers r b

-- a hull of the points of a list, and blocks that have each of them
pub record IsRow (P : Program) (notes : List Note) (numbers : List ℕ) (row : Row) : Type 0 where
  pub whole : AreUnder P notes row.hull numbers
  pub each : All (λ b. IsBlock P notes b) row.blocks.items
  pub found : (q : Point) → IsPoint P q → IsListed P numbers q → IsInSome P row.blocks.items q

-- so it is of each row that there is for one of the lists
abbrev pub AreRows : Program → List Note → List (List ℕ) → List (Option Row) → Type 0
AreRows P notes lists rows = (k : ℕ) (row : Row) → slice_get rows k ≡ Some (Some row) → IsRow P notes (list_at lists k) row

-- the effect writes a variable
abbrev pub WritesOne : Effect → Type 0
WritesOne effect = (x : ℕ) × (target_of effect ≡ Some x)

-- each point that writes a variable is in one of the blocks
abbrev pub HaveWriters : Program → List Block → Type 0
HaveWriters P blocks = (q : Point) → IsPoint P q → WritesOne (effect_at P q) → IsInSome P blocks q

-- the hulls of an index's points: the rows of its lists, and by actor those of all points that write
pub record AreHullsOf (P : Program) (notes : List Note) (I : IndexOf) (hulls : Hulls) : Type 0 where
  pub writers : AreRows P notes I.writers hulls.writers.items
  pub lives : AreRows P notes I.lives hulls.lives.items
  pub each : All (λ b. IsBlock P notes b) hulls.actors.items
  pub found : HaveWriters P hulls.actors.items

-- no point of a closed actor that writes a variable disturbs p's note
abbrev pub AreClosed : Program → List Note → Point → List Bool → Type 0
AreClosed P notes p closed =
    (q : Point) → IsPoint P q → WritesOne (effect_at P q) → slice_index_or closed q.actor.0 false ≡ true → Undisturbed P notes p q

-- no point of the block disturbs p's note, or the block's actor isn't closed
abbrev pub IsTold : Program → List Note → Point → List Bool → Block → Type 0
IsTold P notes p closed b =
    ((q : Point) → IsPoint P q → IsListed P b.numbers.items q → Undisturbed P notes p q)
    ⊎ ((a : ActorId) × (b.hull.actor ≡ Some a) × (slice_index_or closed a.0 false ≡ false))
