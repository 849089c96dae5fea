-- The index of an application: by what the steps from a point can change, the numbers of the points that write a variable,
-- that create or delete an object, or that can leave a declared range. For the public contracts of `Index`.
--
-- | word                  | meaning                                                                                |
-- |-----------------------|----------------------------------------------------------------------------------------|
-- | CanLeave              | a `set` gives its variable, from some numbers of its operands' declared ranges, one    |
-- |                       | outside the variable's                                                                 |
-- | Lists                 | rising numbers, of exactly those points below a bound whose effect is such             |
-- | IndexOf, list_at      | an index as the contracts see it; its list for a variable, or for an object            |
-- | IsIndexBelow,         | an index that has the points below a bound; that has all points of the application     |
-- |   IsIndexOf           |                                                                                        |
use Rattle.std.specs.Prelude.{◌≡◌, ◌<◌, ◌↔◌, ℕ, ℤ, List, [], Some, AllPairs, Contains, length, slice_get, slice_index_or}
use Rattle.fr_program.specs.declared.ids.Point.{Point}
use Rattle.fr_program.specs.Program.{Program}
use Rattle.fr_program.specs.Points.{points_of}
use Rattle.fr_rules.specs.Rule.{result_of}
use Rattle.fr_notes.specs.Note.{Within}
use Rattle.fr_notes.specs.Reckoning.{CanBeIn}
use Rattle.fr_effects.specs.declared.effects.Effect.{Effect}
use Rattle.fr_effects.specs.declared.effects.Effect.TheVariants.{Sets}
use Rattle.fr_effects.specs.Effects.{declared_of, effect_at, target_of, made_of}

-- from some numbers of its operands' declared ranges a `set` gives its variable a number outside that one's
abbrev pub CanLeave : Program → Effect → Type 0
CanLeave P (Sets x left operator right) =
    (u : ℤ) × (v : ℤ) × CanBeIn (declared_of P) left u × CanBeIn (declared_of P) right v
    × (Within (declared_of P x.0) (result_of operator u v) → ⊥)
CanLeave P effect = ⊥

-- the number of a point whose effect is such
abbrev pub IsOne : Program → (Effect → Type 0) → ℕ → Type 0
IsOne P IsSuch k = (q : Point) × (slice_get (points_of P) k ≡ Some q) × IsSuch (effect_at P q)

-- the numbers rise, and are those of exactly the points below the bound whose effect is such
pub record Lists (P : Program) (IsSuch : Effect → Type 0) (bound : ℕ) (numbers : List ℕ) : Type 0 where
  pub rising : AllPairs (λ j k. j < k) numbers
  pub exact : (k : ℕ) → (Contains numbers k ↔ ((k < bound) × IsOne P IsSuch k))

-- an index
pub record IndexOf : Type 0 where
  -- by variable, and by object
  pub writers : List (List ℕ)
  pub lives : List (List ℕ)
  pub leavers : List ℕ

-- the list for the variable or the object with this number; an empty one past the last
abbrev pub list_at : List (List ℕ) → ℕ → List ℕ
list_at lists k = slice_index_or lists k []

-- the index has the points below the bound
pub record IsIndexBelow (P : Program) (bound : ℕ) (I : IndexOf) : Type 0 where
  pub variables : length I.writers ≡ length P.variables
  pub objects : length I.lives ≡ length P.objects
  pub writers : (x : ℕ) → x < length P.variables → Lists P (λ e. target_of e ≡ Some x) bound (list_at I.writers x)
  pub lives : (o : ℕ) → o < length P.objects → Lists P (λ e. made_of e ≡ Some o) bound (list_at I.lives o)
  pub leavers : Lists P (CanLeave P) bound I.leavers

-- it has all points of the application
abbrev pub IsIndexOf : Program → IndexOf → Type 0
IsIndexOf P I = IsIndexBelow P (length (points_of P)) I
