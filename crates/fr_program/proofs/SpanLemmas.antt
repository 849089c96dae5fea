-- Products of whole numbers: they keep the order or turn it with the sign of the factor, and of 64 bits they fit.
use Rattle.std.proofs.Common.{◌≡◌, ◌≤◌, ◌*◌, ◌^◌, ◌≤ℤ◌, ◌*ℤ◌, ℕ, ℤ, suc, pos, negsuc, FitsSigned, ap, ◌∙◌, arith, lit<, to_z, of_z}
use Rattle.std.proofs.Math.Nat.{mul-le-mul_right}
use Rattle.std.proofs.lemmas.Int.{ints, to_z-of_z, fits_signed_mul}
use mir.Syntax.{w64, w128}
use lib.Signed.{nat_abs-le}
use lib.IntN.{*ℤ-zero}

-- a factor that isn't negative keeps the order
mul_up_nat : (k : ℕ) (x y : ℤ) → x ≤ℤ y → (x *ℤ pos k) ≤ℤ (y *ℤ pos k)
mul_up_nat k (pos a) (pos b) le = let h : a * k ≤ b * k = mul-le-mul_right k (omega (arith, ints)) in omega (arith, ints)
mul_up_nat k (pos a) (negsuc b) le = absurd (omega (arith, ints))
mul_up_nat k (negsuc a) (pos b) le = omega (arith, ints)
mul_up_nat k (negsuc a) (negsuc b) le = let h : suc b * k ≤ suc a * k = mul-le-mul_right k (omega (arith, ints)) in omega (arith, ints)

pub mul_up : (by x y : ℤ) → pos 0 ≤ℤ by → x ≤ℤ y → (x *ℤ by) ≤ℤ (y *ℤ by)
mul_up (pos k) x y up le = mul_up_nat k x y le
mul_up (negsuc k) x y up le = absurd (omega (arith, ints))

-- a factor that isn't positive turns it
mul_down_nat : (k : ℕ) (x y : ℤ) → x ≤ℤ y → (y *ℤ negsuc k) ≤ℤ (x *ℤ negsuc k)
mul_down_nat k (pos a) (pos b) le = let h : a * suc k ≤ b * suc k = mul-le-mul_right (suc k) (omega (arith, ints)) in omega (arith, ints)
mul_down_nat k (pos a) (negsuc b) le = absurd (omega (arith, ints))
mul_down_nat k (negsuc a) (pos b) le = omega (arith, ints)
mul_down_nat k (negsuc a) (negsuc b) le = let h : suc b * suc k ≤ suc a * suc k = mul-le-mul_right (suc k) (omega (arith, ints)) in omega (arith, ints)

both_none : (x y : ℤ) → (y *ℤ pos 0) ≤ℤ (x *ℤ pos 0)
both_none x y = rw (*ℤ-zero, *ℤ-zero) (omega (arith, ints))

pub mul_down : (by x y : ℤ) → by ≤ℤ pos 0 → x ≤ℤ y → (y *ℤ by) ≤ℤ (x *ℤ by)
mul_down (negsuc k) x y down le = mul_down_nat k x y le
mul_down (pos k) x y down le = let none : k ≡ 0 = omega (arith, ints) in rw none (both_none x y)

-- the product that the code computes with 128 bits
pub product : (z by wide : ℤ) → FitsSigned w64 z → FitsSigned w64 by → wide ≡ to_z w64 (of_z w64 by) →
    to_z w128 (of_z w128 (to_z w128 (of_z w128 z) *ℤ to_z w128 (of_z w128 wide))) ≡ z *ℤ by
product z by wide fits by_fits is =
    let f : FitsSigned w128 z = omega (arith, ints) in
    let g : FitsSigned w128 by = omega (arith, ints) in
    let first = to_z-of_z w128 z f in
    let second = ap (λ n. to_z w128 (of_z w128 n)) (is ∙ to_z-of_z w64 by by_fits) ∙ to_z-of_z w128 by g in
    let whole : FitsSigned w128 (z *ℤ by) = fits_signed_mul w128 z by (2 ^ 63) (2 ^ 63) (nat_abs-le z fits.sfits) (nat_abs-le by by_fits.sfits) (lit< tt) in
    ap (λ n. to_z w128 (of_z w128 n)) (ap (λ n. n *ℤ to_z w128 (of_z w128 wide)) first ∙ ap (λ n. z *ℤ n) second) ∙ to_z-of_z w128 (z *ℤ by) whole
