use Rattle.std.proofs.Common.{arith, ap, inl, inr}
use Rattle.std.specs.Prelude.{pos, negsuc}
use Rattle.fr_notes.proofs.Terms.{ints, IfSome_then}
use mir.Val.{of_z}
use mir.Syntax.{w128}
use Rattle.fr_program.proofs.OptionLemmas.{none_then}
use Rattle.fr_notes.proofs.ComparisonLaws.{without-made, without-none, IsMoved}
use Rattle.fr_notes.proofs.comparison.without.Goals as goal
use Rattle.fr_notes.proofs.comparison.without.Goals.{then-range-other, else-range-other, then-range-other-2, else-range-other-2}

lower : (c : goal.After-new) → IsMoved c.args.range.lo c.args.other.lo (pos 1) c.if-range-other.lo
lower c = elim c.if-range-other.branch [ then-range-other w ↦ inl (omega (arith, ints), omega (arith, ints)) | else-range-other w ↦ inr (λ e. w.if-range-other.false (ap (λ z. of_z w128 z) e), omega (arith, ints)) ]

upper : (c : goal.After-new) → IsMoved c.args.range.hi c.args.other.lo (negsuc 0) c.if-range-other-2.hi
upper c = elim c.if-range-other-2.branch [ then-range-other-2 w ↦ inl (omega (arith, ints), omega (arith, ints)) | else-range-other-2 w ↦ inr (λ e. w.if-range-other-2.false (ap (λ z. of_z w128 z) e), omega (arith, ints)) ]

pub returns-clause-some : goal.returns-clause-some
returns-clause-some c =
    IfSome_then c.new.result c.new.ensures.some (λ new h. without-made c.args.range new c.args.other.lo (rw (h.0, c.if-range-other.lo-is) (lower c)) (rw (h.1, c.if-range-other-2.hi-is) (upper c)))

pub returns-clause-none : goal.returns-clause-none
returns-clause-none c =
    none_then c.new.result c.new.ensures.none (λ h. without-none c.args.range c.args.other.lo _ _ (rw c.if-range-other.lo-is (lower c)) (rw c.if-range-other-2.hi-is (upper c)) h)
