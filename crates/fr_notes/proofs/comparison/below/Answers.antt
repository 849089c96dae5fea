use Rattle.std.proofs.Common.{arith, ◌≡◌, ap, ◌∙◌}
use Rattle.std.specs.Prelude.{◌+ℤ◌, ◌-ℤ◌}
use Rattle.fr_notes.proofs.Terms.{ints, int_min, int_max, IsBelow, NoPair}
use mir.Val.{to_z, of_z}
use mir.Syntax.{w128}
use Rattle.fr_notes.proofs.ComparisonLaws.{if_none, below-made}
use Rattle.fr_notes.proofs.comparison.below.Goals as goal

pub returns-in_err-left-clause-none : goal.returns-in_err-left-clause-none
returns-in_err-left-clause-none c =
    let apart : NoPair (IsBelow c.args.gap) c.args.low c.args.high = λ x y p. let h = c.in_err-left.ensures.none in omega (arith, ints) in if_none _ apart

pub returns-in_err-right-clause-none : goal.returns-in_err-right-clause-none
returns-in_err-right-clause-none c =
    let apart : NoPair (IsBelow c.args.gap) c.args.low c.args.high = λ x y p. let h = c.in_err-right.ensures.none in omega (arith, ints) in if_none _ apart

pub returns-clause-some : goal.returns-clause-some
returns-clause-some c =
    let l = c.in_ok-left.ensures.some in
    let r = c.in_ok-right.ensures.some in
    let a : to_z w128 (of_z w128 (to_z w128 (of_z w128 c.args.high.hi) -ℤ to_z w128 (of_z w128 c.args.gap))) ≡ c.args.high.hi -ℤ c.args.gap = omega (arith, ints) in
    let b : to_z w128 (of_z w128 (to_z w128 (of_z w128 c.args.low.lo) +ℤ to_z w128 (of_z w128 c.args.gap))) ≡ c.args.low.lo +ℤ c.args.gap = omega (arith, ints) in
    below-made c.args.low c.args.high c.in_ok-left.left c.in_ok-right.right c.args.gap l.0 (l.1 ∙ ap (λ z. int_min c.args.low.hi z) a) (r.0 ∙ ap (λ z. int_max c.args.high.lo z) b) r.1
