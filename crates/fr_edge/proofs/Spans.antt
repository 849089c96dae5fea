-- Whether the span of what a `set` computes is in the target's declared range.
use Rattle.std.proofs.Common.{arith, inl, inr}
use Rattle.std.specs.Prelude.{◌≤ℤ◌}
use Rattle.fr_edge.proofs.Terms.{ints, by_lt_z, Before, VarId, Set, Operand, Operator, Range, Program, variable_at, Known, joint_range, IsSpanIn, StaysIn, IsOutBy}

module _ (P : Program) (k : Known) (x : VarId) (l : Operand) (op : Operator) (r : Operand) (span : Range) (is : IsSpanIn (joint_range k) op l r span) where
  pub stays-made : ((variable_at P x.0).lo ≤ℤ span.lo) × (span.hi ≤ℤ (variable_at P x.0).hi) → StaysIn P k Before (Set x l op r)
  stays-made h = λ u v p q. let w = is.inside u v p q in (omega (arith, ints), omega (arith, ints))

  pub leaves-made : (((variable_at P x.0).lo ≤ℤ span.lo) × (span.hi ≤ℤ (variable_at P x.0).hi) → ⊥) → IsOutBy P k Before (Set x l op r)
  leaves-made h = by_lt_z span.lo (variable_at P x.0).lo (λ lt. (is.lo.0, is.lo.1, is.lo.2, is.lo.3, inl (rw is.lo.4 lt))) (λ le.
      by_lt_z (variable_at P x.0).hi span.hi (λ lt. (is.hi.0, is.hi.1, is.hi.2, is.hi.3, inr (rw is.hi.4 lt))) (λ ge. absurd (h (le, ge))))
