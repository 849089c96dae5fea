-- Ranges as sets of whole numbers, and the exact spans of what is computed of them.
--
-- | word     | meaning                                                                                   |
-- |----------|-------------------------------------------------------------------------------------------|
-- | IsIn     | the number is in the range                                                                |
-- | IsNarrow | both ends have 64 bits                                                                    |
-- | Gives    | some number of each range gives this one                                                  |
-- | IsSpan   | the range has each number that two ranges give, and both of its ends are given            |
-- | IsScaled | the range has each multiple of a range's numbers, and both of its ends are such multiples |
use Rattle.std.specs.Prelude.{◌≡◌, ◌≤ℤ◌, ◌*ℤ◌, ℤ}
use Rattle.fr_program.specs.declared.range.Range.{Range}
use Rattle.fr_program.specs.Limits.{IsNumber}

-- the number is in the range
abbrev pub IsIn : Range → ℤ → Type 0
IsIn r z = (r.lo ≤ℤ z) × (z ≤ℤ r.hi)

-- both ends have 64 bits
abbrev pub IsNarrow : Range → Type 0
IsNarrow r = IsNumber r.lo × IsNumber r.hi

-- some number of each range gives this one
abbrev pub Gives : (ℤ → ℤ → ℤ) → Range → Range → ℤ → Type 0
Gives op a b z = (x : ℤ) × (y : ℤ) × IsIn a x × IsIn b y × (op x y ≡ z)

-- the exact span: nothing that two numbers give lies outside, and both ends are given
pub record IsSpan (op : ℤ → ℤ → ℤ) (a b r : Range) : Type 0 where
  pub inside : (x y : ℤ) → IsIn a x → IsIn b y → IsIn r (op x y)
  pub lo : Gives op a b r.lo
  pub hi : Gives op a b r.hi

-- the exact span of a range's multiples
pub record IsScaled (by : ℤ) (a r : Range) : Type 0 where
  pub inside : (x : ℤ) → IsIn a x → IsIn r (x *ℤ by)
  pub lo : (x : ℤ) × IsIn a x × (x *ℤ by ≡ r.lo)
  pub hi : (x : ℤ) × IsIn a x × (x *ℤ by ≡ r.hi)
