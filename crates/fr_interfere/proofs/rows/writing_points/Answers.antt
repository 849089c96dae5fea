use Rattle.std.proofs.Common.{◌≡◌, length, sym, subst, arith}
use Rattle.fr_interfere.proofs.Terms.{points_of, Lists, WritesOne}
use Rattle.fr_effects.proofs.IndexLaws.{lists-none}
use Rattle.fr_interfere.proofs.rows.writing_points.Goals as goal

pub loop-number-init : goal.loop-number-init
loop-number-init c = subst (Lists c.args.app.now WritesOne 0) (sym c.new-numbers.ensures.items) (lists-none c.args.app.now WritesOne)

pub returns : goal.returns
returns c =
    let all : c.loop-number.number ≡ length (points_of c.args.app.now) = omega (arith, c.loop-number-test.false, c.loop-number.auto.number-end, c.points-number-end.ensures) in
    subst (λ n. Lists c.args.app.now WritesOne n c.loop-number.numbers.items) all c.loop-number.invariant
