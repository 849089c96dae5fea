use Rattle.std.proofs.Common.{◌≡◌, ◌+◌, Some, sym, ap, ◌∙◌, subst}
use Rattle.std.specs.Prelude.{is_some}
use Rattle.fr_interfere.proofs.Terms.{effect_at, target_of, Lists, WritesOne}
use Rattle.fr_effects.proofs.IndexLaws.{lists-more, lists-same}
use Rattle.fr_interfere.proofs.ClosedLaws.{some-there}
use Rattle.fr_interfere.proofs.rows.enlist_writer.Goals as goal

pub returns-in_ok-push : goal.returns-in_ok-push
returns-in_ok-push c =
    let P = c.args.app.now in
    let n = c.args.number in
    let q = c.point-point.result in
    let here = c.point-point.ensures in
    let there = some-there c.target.result (sym c.is_some.ensures ∙ c.if-is_some.true) in
    let writes : WritesOne (effect_at P q) = (there.0, ap target_of (sym (c.effect_at.ensures.is q here)) ∙ sym c.target.ensures ∙ there.1) in
    subst (Lists P WritesOne (n + 1)) (sym c.in_ok-push.ensures.items) (lists-more P WritesOne n q here c.args.numbers.now.items c.requires.so_far writes)

pub returns-else-is_some : goal.returns-else-is_some
returns-else-is_some c =
    let P = c.args.app.now in
    let n = c.args.number in
    let q = c.point-point.result in
    let here = c.point-point.ensures in
    lists-same P WritesOne n q here c.args.numbers.now.items c.requires.so_far
    (λ (x, is).
    let found : is_some c.target.result ≡ is_some (Some x) = ap is_some (c.target.ensures ∙ ap target_of (c.effect_at.ensures.is q here) ∙ is) in
    let not = sym c.is_some.ensures ∙ c.if-is_some.false in
    cc)
