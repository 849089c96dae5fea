-- For private clauses: what a comparison that is true leaves of the ranges of its two sides.
use Rattle.std.specs.Prelude.{◌≢◌, ◌≤ℤ◌, ◌+ℤ◌, ℤ, IsTrue}
use Rattle.fr_program.specs.declared.instr.Comparison.{Comparison}
use Rattle.fr_program.specs.declared.range.Range.{Range}
use Rattle.fr_program.specs.Spans.{IsIn}
use Rattle.fr_rules.specs.Step.{compare}

-- what relates a number of one range to one of the other: a comparison that is true of them
abbrev pub Compares : Comparison → ℤ → ℤ → Type 0
Compares comparison x y = IsTrue (compare comparison x y)

-- the first number and a gap are at most the second
abbrev pub IsBelow : ℤ → ℤ → ℤ → Type 0
IsBelow gap x y = (x +ℤ gap) ≤ℤ y

-- some number of each range, related to each other
abbrev pub IsPair : (ℤ → ℤ → Type 0) → Range → Range → ℤ → ℤ → Type 0
IsPair R left right x y = IsIn left x × IsIn right y × R x y

-- the least range of the first numbers of all related pairs: it has each of them, and both of its ends are such numbers
pub record IsLeast (R : ℤ → ℤ → Type 0) (left right new : Range) : Type 0 where
  pub inside : (x y : ℤ) → IsPair R left right x y → IsIn new x
  pub lo : (y : ℤ) × IsPair R left right new.lo y
  pub hi : (y : ℤ) × IsPair R left right new.hi y

-- the relation from its other side
abbrev pub turned : (ℤ → ℤ → Type 0) → ℤ → ℤ → Type 0
turned R y x = R x y

-- the least ranges of both sides
pub record AreLeast (R : ℤ → ℤ → Type 0) (one other new_one new_other : Range) : Type 0 where
  pub left : IsLeast R one other new_one
  pub right : IsLeast (turned R) other one new_other

-- there is no related pair
abbrev pub NoPair : (ℤ → ℤ → Type 0) → Range → Range → Type 0
NoPair R left right = (x y : ℤ) → IsPair R left right x y → ⊥

-- the least range of the numbers of a range other than this one
pub record IsWithout (range : Range) (number : ℤ) (new : Range) : Type 0 where
  pub inside : (x : ℤ) → IsIn range x → x ≢ number → IsIn new x
  pub lo : IsIn range new.lo × (new.lo ≢ number)
  pub hi : IsIn range new.hi × (new.hi ≢ number)
