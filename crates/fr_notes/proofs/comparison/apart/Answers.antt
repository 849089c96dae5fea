use Rattle.std.proofs.Common.{arith, ◌≡◌, ap}
use Rattle.fr_notes.proofs.Terms.{ints, IfSome_then}
use mir.Val.{of_z}
use mir.Syntax.{w128}
use Rattle.fr_program.proofs.OptionLemmas.{none_then}
use Rattle.fr_notes.proofs.ComparisonLaws.{least-apart, least-without, none-without}
use Rattle.fr_notes.proofs.comparison.apart.Goals as goal

pub returns-then-other-clause-some : goal.returns-then-other-clause-some
returns-then-other-clause-some c = least-apart c.args.range c.args.other (λ e. c.if-other.true (ap (λ z. of_z w128 z) e))

pub returns-clause-some : goal.returns-clause-some
returns-clause-some c =
    let a = c.args.range in
    let b = c.args.other in
    let one : b.lo ≡ b.hi = omega (arith, ints) in
    IfSome_then c.without.result c.without.ensures.some (λ new h. least-without a b new one h)

pub returns-clause-none : goal.returns-clause-none
returns-clause-none c =
    let a = c.args.range in
    let b = c.args.other in
    let one : b.lo ≡ b.hi = omega (arith, ints) in
    none_then c.without.result c.without.ensures.none (λ h. none-without a b one h)
