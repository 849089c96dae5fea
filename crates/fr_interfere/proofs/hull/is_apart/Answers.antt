-- Two ranges have no number in common where one ends before the other begins.
use Rattle.std.proofs.Common.{◌≡◌, arith, rules, subst, sym}
use Rattle.std.specs.Prelude.{◌↔◌, ◌≤ℤ◌, ◌<ℤ◌, ℤ, FitsSigned, IsTrue, int_lt}
use Rattle.fr_interfere.proofs.Terms.{int_max, int_min, by_lt_z, clamps, ints, to_z-of_z, RangesMeet, ends_of}
use mir.Syntax.{w128}
use Rattle.fr_interfere.proofs.hull.is_apart.Goals as goal

less : (x y m n : ℤ) → x ≡ m → y ≡ n → IsTrue (int_lt x y) ↔ (m <ℤ n)
less x y m n left right = ((λ h. grind (arith, ints)), (λ h. grind (arith, ints)))

past : (a b c d : ℤ) → b <ℤ c → int_max a c ≤ℤ int_min b d → ⊥
past a b c d over meet = omega (arith, ints, clamps)

before : (a b c d : ℤ) → d <ℤ a → int_max a c ≤ℤ int_min b d → ⊥
before a b c d under meet = omega (arith, ints, clamps)

meeting : (a b c d : ℤ) → a ≤ℤ b → c ≤ℤ d → a ≤ℤ d → c ≤ℤ b → int_max a c ≤ℤ int_min b d
meeting a b c d first second left right = omega (arith, ints, clamps)

under : (a b c d : ℤ) → a ≤ℤ b → c ≤ℤ d → (b <ℤ c → ⊥) → (int_max a c ≤ℤ int_min b d → ⊥) → d <ℤ a
under a b c d first second over apart =
    by_lt_z d a (λ h. h) (λ h. absurd (apart (meeting a b c d first second h (by_lt_z b c (λ p. absurd (over p)) (λ p. p)))))

pub returns-then-range-other : goal.returns-then-range-other
returns-then-range-other c =
    let one = c.args.entry.now.1 in
    let two = c.range-other.result in
    let f : FitsSigned w128 one.hi = search rules in
    let g : FitsSigned w128 two.lo = search rules in
    let over = (less _ _ one.hi two.lo (to_z-of_z w128 one.hi f) (to_z-of_z w128 two.lo g)).0 c.if-range-other.true in
    ((λ t. subst (λ r. RangesMeet (ends_of one) r → ⊥) c.range-other.ensures (past one.lo one.hi two.lo two.hi over)), (λ apart. c.if-range-other.true))

pub returns-else-range-other : goal.returns-else-range-other
returns-else-range-other c =
    let one = c.args.entry.now.1 in
    let two = c.range-other.result in
    let f : FitsSigned w128 one.hi = search rules in
    let g : FitsSigned w128 two.lo = search rules in
    let h : FitsSigned w128 two.hi = search rules in
    let i : FitsSigned w128 one.lo = search rules in
    let over = less _ _ one.hi two.lo (to_z-of_z w128 one.hi f) (to_z-of_z w128 two.lo g) in
    let below = less _ _ two.hi one.lo (to_z-of_z w128 two.hi h) (to_z-of_z w128 one.lo i) in (
      (λ t. subst (λ r. RangesMeet (ends_of one) r → ⊥) c.range-other.ensures (before one.lo one.hi two.lo two.hi (below.0 t))),
      (λ apart. below.1 (under one.lo one.hi two.lo two.hi one.ordered two.ordered (λ p. let t = over.1 p in let u = c.if-range-other.false in cc) (subst (λ r. RangesMeet (ends_of one) r → ⊥) (sym c.range-other.ensures) apart))),
    )
