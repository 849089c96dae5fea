use Rattle.std.proofs.Common.{sym, ap, ◌∙◌, subst}
use Rattle.fr_notes.proofs.Terms.{Then, Else, can_be_dead, IsLeft}
use Rattle.fr_notes.proofs.LifeRows.{creatable, not-creatable, create-left, create-fails-left, create-never}
use Rattle.fr_notes.proofs.BeforeLaws.{as-made}
use Rattle.fr_notes.proofs.before.created.Goals as goal

pub returns-then-not-can_be_dead : goal.returns-then-not-can_be_dead
returns-then-not-can_be_dead c = λ P kind or_else p spot none.
    create-never P c.args.known.now p kind c.args.object or_else spot c.args.way (not-creatable _ (ap can_be_dead (sym c.holding.ensures) ∙ sym c.can_be_dead.ensures ∙ c.if-not-can_be_dead.true))

pub returns-in-Then : goal.returns-in-Then
returns-in-Then c = λ P kind or_else p spot none.
    let k = c.args.known.now in
    subst (λ w. IsLeft P k p w c.claiming.result) (sym c.in-Then.is) (as-made P k p Then _ _ c.claiming.ensures (create-left P k p kind c.args.object or_else spot none (creatable _ (ap can_be_dead (sym c.holding.ensures) ∙ sym c.can_be_dead.ensures ∙ c.if-not-can_be_dead.false))))

pub returns-in-Else : goal.returns-in-Else
returns-in-Else c = λ P kind or_else p spot none.
    let k = c.args.known.now in
    subst (λ w. IsLeft P k p w c.claiming-in-Else.result) (sym c.in-Else.is) (as-made P k p Else _ _ c.claiming-in-Else.ensures (create-fails-left P k p kind c.args.object or_else spot none (creatable _ (ap can_be_dead (sym c.holding.ensures) ∙ sym c.can_be_dead.ensures ∙ c.if-not-can_be_dead.false))))
