use Rattle.std.proofs.Common.{refl, sym, ap, ◌∙◌, subst}
use Rattle.fr_notes.proofs.Terms.{Before, Calls, On, Then, living, is_given_unheld, Leaves, claiming}
use Rattle.fr_notes.proofs.LifeRows.{begin-left}
use Rattle.fr_notes.proofs.Never.{dead-never, unheld-never}
use Rattle.fr_notes.proofs.BeforeLaws.{as-made}
use Rattle.fr_notes.proofs.before.begun.Goals as goal

pub returns-in_err-holding : goal.returns-in_err-holding
returns-in_err-holding c = λ P same p spot none.
    let k = c.args.known.now in
    subst (λ x. Leaves P k p Then x) (sym c.from_residual.ensures) (dead-never P k p Then Before (Calls (On c.args.call.now)) c.args.call.now.object refl spot (ap living (sym c.holding.ensures) ∙ sym c.living.ensures ∙ c.in_err-holding.was))

pub returns-then-is_given_unheld : goal.returns-then-is_given_unheld
returns-then-is_given_unheld c = λ P same p spot none.
    unheld-never P c.args.known.now p Then Before c.args.call.now c.in_ok-holding.holding refl spot (ap living (sym c.holding.ensures) ∙ sym c.living.ensures ∙ c.in_ok-holding.was) (ap (λ x. is_given_unheld x c.args.call.now c.in_ok-holding.holding) same ∙ sym c.is_given_unheld.ensures ∙ c.if-is_given_unheld.true)

pub returns : goal.returns
returns c = λ P same p spot none.
    let k = c.args.known.now in
    as-made P k p Then _ _ (c.claiming.ensures ∙ ap (λ d. claiming k c.args.call.now.object d) c.claim.ensures) (begin-left P k p c.args.call.now spot none c.in_ok-holding.holding (ap living (sym c.holding.ensures) ∙ sym c.living.ensures ∙ c.in_ok-holding.was) (ap (λ x. is_given_unheld x c.args.call.now c.in_ok-holding.holding) same ∙ sym c.is_given_unheld.ensures ∙ c.if-is_given_unheld.false))
