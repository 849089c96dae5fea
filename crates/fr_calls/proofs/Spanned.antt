-- What two numbers give, each as the range that has it alone, is one number.
use Rattle.std.proofs.Common.{◌≡◌, ◌∙◌, ap, arith, subst, sym}
use Rattle.std.specs.Prelude.{◌*ℤ◌, ℤ, FitsSigned}
use Rattle.std.specs.Int.{w64}
use Rattle.std.proofs.lemmas.Int.{ints}
use Rattle.fr_program.specs.declared.range.Range.{Range}
use Rattle.fr_program.specs.Spans.{Gives, IsIn, IsNarrow}

module _ (a : Range) (x : ℤ) (lo : a.lo ≡ x) (hi : a.hi ≡ x) where
  -- the number is the only one in its range
  only-in : (z : ℤ) → IsIn a z → z ≡ x
  only-in z h = omega (arith, ints, lo, hi, h.0, h.1)

  -- the range is no wider than the number
  pub only-narrow : FitsSigned w64 x → IsNarrow a
  only-narrow f = (subst (λ n. FitsSigned w64 n) (sym lo) f, subst (λ n. FitsSigned w64 n) (sym hi) f)

  -- the only multiple of it
  pub only-scaled : (by z : ℤ) → ((k : ℤ) × IsIn a k × (k *ℤ by ≡ z)) → z ≡ x *ℤ by
  only-scaled by z h = sym h.2 ∙ ap (λ k. k *ℤ by) (only-in h.0 h.1)

-- the only number that the two give
pub only-given : (op : ℤ → ℤ → ℤ) (a b : Range) (x y z : ℤ) → a.lo ≡ x → a.hi ≡ x → b.lo ≡ y → b.hi ≡ y → Gives op a b z → z ≡ op x y
only-given op a b x y z al ah bl bh h = sym h.4 ∙ ap (λ k. op k h.1) (only-in a x al ah h.0 h.2) ∙ ap (λ k. op x k) (only-in b y bl bh h.1 h.3)
