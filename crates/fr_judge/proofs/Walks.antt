-- Points by their numbers: two with one number are one, and what is so of each point before the one that a walk is at.
use Rattle.std.proofs.Common.{◌≡◌, ℕ, ◌<◌, ◌+◌, length, Some, sym, ap, ◌∙◌, subst, ⊎_elim, arith}
use Rattle.std.specs.Prelude.{slice_get}
use Rattle.fr_judge.proofs.Terms.{slice_get_within, same_Some, cases_lt, Point, Program, IsPoint, points_of, point_number, points_are_numbered}

-- it is so of each point with a number below this one
abbrev pub IsSoBelow : Program → (Point → Type 0) → ℕ → Type 0
IsSoBelow P F n = (p : Point) → IsPoint P p → point_number P p < n → F p

pub same-point : (P : Program) (p q : Point) → IsPoint P p → IsPoint P q → point_number P p ≡ point_number P q → p ≡ q
same-point P p q x y e = same_Some _ _ (sym ((points_are_numbered P).at p x) ∙ ap (λ k. slice_get (points_of P) k) e ∙ (points_are_numbered P).at q y)

module _ (P : Program) (F : Point → Type 0) where
  pub one-more : (n : ℕ) → IsSoBelow P F n → ((p : Point) → slice_get (points_of P) n ≡ Some p → F p) → IsSoBelow P F (n + 1)
  one-more n below here q is lt =
      ⊎_elim
      (λ l. below q is l)
      (λ h. let same : point_number P q ≡ n = omega (arith, h, lt) in here q (subst (λ k. slice_get (points_of P) k ≡ Some q) same ((points_are_numbered P).at q is)))
      (cases_lt (point_number P q) n)

  pub at-each : IsSoBelow P F (length (points_of P)) → (p : Point) → IsPoint P p → F p
  at-each below p is = below p is (slice_get_within (points_of P) (point_number P p) p ((points_are_numbered P).at p is))
