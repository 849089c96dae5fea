use Rattle.std.proofs.Common.{refl, sym, ap, ◌∙◌, subst}
use Rattle.fr_notes.proofs.Terms.{Inside, Calls, On, is_unsuited, living, is_given_unheld, Leaves}
use Rattle.fr_notes.proofs.Never.{dead-never, unheld-never, unsuited-never}
use Rattle.fr_notes.proofs.inside.change_inside.Goals as goal

pub returns-in_err-holding : goal.returns-in_err-holding
returns-in_err-holding c = λ p spot.
    let P = c.args.app.now in
    let k = c.args.known.now in
    subst (λ x. Leaves P k p c.args.way x) (sym c.from_residual.ensures) (dead-never P k p c.args.way Inside (Calls (On c.args.call.now)) c.args.call.now.object refl spot (ap living (sym c.holding.ensures) ∙ sym c.living.ensures ∙ c.in_err-holding.was))

pub returns-then-is_unsuited : goal.returns-then-is_unsuited
returns-then-is_unsuited c = λ p spot.
    let call = c.args.call.now in
    unsuited-never c.args.app.now c.args.known.now p c.args.way call spot (ap (λ x. is_unsuited x call.timing call.act) (sym c.kind-kind.ensures) ∙ sym c.is_unsuited.ensures ∙ c.if-is_unsuited.true)

pub returns-then-is_given_unheld : goal.returns-then-is_given_unheld
returns-then-is_given_unheld c = λ p spot.
    let call = c.args.call.now in
    unheld-never c.args.app.now c.args.known.now p c.args.way Inside call c.in_ok-holding.holding refl spot (ap living (sym c.holding.ensures) ∙ sym c.living.ensures ∙ c.in_ok-holding.was) (ap (λ x. is_given_unheld x call c.in_ok-holding.holding) (sym c.kind-kind.ensures) ∙ sym c.is_given_unheld.ensures ∙ c.if-is_given_unheld.true)
