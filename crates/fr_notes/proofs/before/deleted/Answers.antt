use Rattle.std.proofs.Common.{refl, sym, ap, ◌∙◌, subst}
use Rattle.fr_notes.proofs.Terms.{Before, Calls, Delete, Then, living, Leaves}
use Rattle.fr_notes.proofs.LifeRows.{delete-left}
use Rattle.fr_notes.proofs.Never.{dead-never}
use Rattle.fr_notes.proofs.BeforeLaws.{as-made}
use Rattle.fr_notes.proofs.before.deleted.Goals as goal

pub returns-in_err-_living : goal.returns-in_err-_living
returns-in_err-_living c = λ P kind p spot none.
    let k = c.args.known.now in
    subst (λ x. Leaves P k p Then x) (sym c.from_residual.ensures) (dead-never P k p Then Before (Calls (Delete kind c.args.object)) c.args.object refl spot (ap living (sym c.holding.ensures) ∙ sym c.living.ensures ∙ c.in_err-_living.was))

pub returns : goal.returns
returns c = λ P kind p spot none.
    let k = c.args.known.now in
    as-made P k p Then _ _ c.claiming.ensures (delete-left P k p kind c.args.object spot none c.in_ok-_living._living (ap living (sym c.holding.ensures) ∙ sym c.living.ensures ∙ c.in_ok-_living.was))
