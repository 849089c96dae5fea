-- Two ranges meet where each begins before the other's end.
use Rattle.std.proofs.Common.{◌≡◌, ◌∙◌, arith, rules, sym}
use Rattle.std.specs.Prelude.{◌↔◌, ◌≤ℤ◌, ℤ, FitsSigned, IsTrue, int_le}
use Rattle.fr_notes.proofs.Terms.{int_max, int_min, false≢true, clamps, ints, to_z-of_z}
use mir.Syntax.{w128}
use Rattle.fr_notes.proofs.pairs.ranges_meet.Goals as goal

at-most : (x y m n : ℤ) → x ≡ m → y ≡ n → IsTrue (int_le x y) ↔ (m ≤ℤ n)
at-most x y m n left right = ((λ h. grind (arith, ints)), (λ h. grind (arith, ints)))

meet : (a b c d : ℤ) → a ≤ℤ b → c ≤ℤ d → a ≤ℤ d → c ≤ℤ b → int_max a c ≤ℤ int_min b d
meet a b c d first second left right = omega (arith, ints, clamps)

met : (a b c d : ℤ) → int_max a c ≤ℤ int_min b d → (a ≤ℤ d) × (c ≤ℤ b)
met a b c d h = (omega (arith, ints, clamps), omega (arith, ints, clamps))

pub returns-then-range-other : goal.returns-then-range-other
returns-then-range-other c =
    let one = c.args.range in
    let two = c.args.other in
    let f : FitsSigned w128 one.lo = search rules in
    let g : FitsSigned w128 one.hi = search rules in
    let h : FitsSigned w128 two.lo = search rules in
    let i : FitsSigned w128 two.hi = search rules in
    let left = at-most _ _ one.lo two.hi (to_z-of_z w128 one.lo f) (to_z-of_z w128 two.hi i) in
    let right = at-most _ _ two.lo one.hi (to_z-of_z w128 two.lo h) (to_z-of_z w128 one.hi g) in
    ((λ t. meet one.lo one.hi two.lo two.hi one.ordered two.ordered (left.0 c.if-range-other.true) (right.0 t)), (λ m. right.1 (met one.lo one.hi two.lo two.hi m).1))

pub returns-else-range-other : goal.returns-else-range-other
returns-else-range-other c =
    let one = c.args.range in
    let two = c.args.other in
    let f : FitsSigned w128 one.lo = search rules in
    let g : FitsSigned w128 two.hi = search rules in
    let left = at-most _ _ one.lo two.hi (to_z-of_z w128 one.lo f) (to_z-of_z w128 two.hi g) in
    ((λ t. absurd (false≢true (sym c.if-range-other.false ∙ t))), (λ m. left.1 (met one.lo one.hi two.lo two.hi m).0))
