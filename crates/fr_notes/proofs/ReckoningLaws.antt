-- From ranges in code to what is known of each variable: the spans of results, and the least ranges of an `if`'s operands.
use Rattle.std.proofs.Common.{◌≡◌, ℕ, sym, ◌∙◌, ap, subst, arith}
use Rattle.std.specs.Prelude.{ℤ, ◌*ℤ◌}
use Rattle.fr_notes.proofs.Terms.{ints, Operand, Number, Operator, Times, Range, IsIn, IsSpan, IsScaled, result_of, Within, ends_of, AreLeast, NoPair, operand_in}
use Rattle.fr_notes.proofs.Terms.{CanBeIn, IsSpanIn, IsBranchIn, NoBranchIn}
use Rattle.std.proofs.Math.IntN.{*ℤ_comm}

module _ (range : ℕ → ℤ × ℤ) (o : Operand) (a : Range) (is : ends_of a ≡ operand_in range o) where
  is-in : (v : ℤ) → CanBeIn range o v → IsIn a v
  is-in v h = subst (λ r. Within r v) (sym is) h

  can-be : (v : ℤ) → IsIn a v → CanBeIn range o v
  can-be v h = subst (λ r. Within r v) is h

module _ (range : ℕ → ℤ × ℤ) where
  pub span-made : (op : Operator) (l r : Operand) (a b span : Range) → ends_of a ≡ operand_in range l → ends_of b ≡ operand_in range r → IsSpan (result_of op) a b span → IsSpanIn range op l r span
  span-made op l r a b span x y h = record {
    inside = λ u v p q. h.inside u v (is-in range l a x u p) (is-in range r b y v q);
    lo = (h.lo.0, h.lo.1, can-be range l a x h.lo.0 h.lo.2, can-be range r b y h.lo.1 h.lo.3, h.lo.4);
    hi = (h.hi.0, h.hi.1, can-be range l a x h.hi.0 h.hi.2, can-be range r b y h.hi.1 h.hi.3, h.hi.4);
  }

  only : (by u : ℤ) → CanBeIn range (Number by) u → u ≡ by
  only by u h = omega (arith, ints)

  itself : (by : ℤ) → CanBeIn range (Number by) by
  itself by = (omega (arith, ints), omega (arith, ints))

  pub right-scaled : (l : Operand) (by : ℤ) (a span : Range) → ends_of a ≡ operand_in range l → IsScaled by a span → IsSpanIn range Times l (Number by) span
  right-scaled l by a span x h = record {
    inside = λ u v p q. rw (only by v q) (h.inside u (is-in range l a x u p));
    lo = (h.lo.0, by, can-be range l a x h.lo.0 h.lo.1, itself by, h.lo.2);
    hi = (h.hi.0, by, can-be range l a x h.hi.0 h.hi.1, itself by, h.hi.2);
  }

  pub left-scaled : (r : Operand) (by : ℤ) (a span : Range) → ends_of a ≡ operand_in range r → IsScaled by a span → IsSpanIn range Times (Number by) r span
  left-scaled r by a span x h = record {
    inside = λ u v p q. subst (λ z. IsIn span z) (*ℤ_comm v by ∙ ap (λ z. z *ℤ v) (sym (only by u p))) (h.inside v (is-in range r a x v q));
    lo = (by, h.lo.0, itself by, can-be range r a x h.lo.0 h.lo.1, *ℤ_comm by h.lo.0 ∙ h.lo.2);
    hi = (by, h.hi.0, itself by, can-be range r a x h.hi.0 h.hi.1, *ℤ_comm by h.hi.0 ∙ h.hi.2);
  }

  module _ (l r : Operand) (a b : Range) (x : ends_of a ≡ operand_in range l) (y : ends_of b ≡ operand_in range r) (R Q : ℤ → ℤ → Type 0) where
    pub branch-made : (low high : Range) → ((u v : ℤ) → R u v → Q u v) → ((u v : ℤ) → Q u v → R u v) → AreLeast R a b low high → IsBranchIn Q range l r low high
    branch-made low high to from h = record {
      inside = λ u v p q k.
          (h.left.inside u v (is-in range l a x u p, is-in range r b y v q, from u v k), h.right.inside v u (is-in range r b y v q, is-in range l a x u p, from u v k));
      one_lo = (h.left.lo.0, can-be range l a x low.lo h.left.lo.1.0, can-be range r b y h.left.lo.0 h.left.lo.1.1, to low.lo h.left.lo.0 h.left.lo.1.2);
      one_hi = (h.left.hi.0, can-be range l a x low.hi h.left.hi.1.0, can-be range r b y h.left.hi.0 h.left.hi.1.1, to low.hi h.left.hi.0 h.left.hi.1.2);
      other_lo = (h.right.lo.0, can-be range l a x h.right.lo.0 h.right.lo.1.1, can-be range r b y high.lo h.right.lo.1.0, to h.right.lo.0 high.lo h.right.lo.1.2);
      other_hi = (h.right.hi.0, can-be range l a x h.right.hi.0 h.right.hi.1.1, can-be range r b y high.hi h.right.hi.1.0, to h.right.hi.0 high.hi h.right.hi.1.2);
    }

    pub no-branch : ((u v : ℤ) → Q u v → R u v) → NoPair R a b → NoBranchIn Q range l r
    no-branch from none u v p q k = none u v (is-in range l a x u p, is-in range r b y v q, from u v k)
