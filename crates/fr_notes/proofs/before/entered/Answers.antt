use Rattle.std.proofs.Common.{◌+◌, sym, ap, ◌∙◌}
use Rattle.fr_notes.proofs.Terms.{Then}
use Rattle.fr_notes.proofs.PlainRows.{enter-left}
use Rattle.fr_notes.proofs.BeforeLaws.{as-made, crit-made}
use Rattle.fr_notes.proofs.before.entered.Goals as goal

pub returns : goal.returns
returns c = λ P form p spot none.
    let k = c.args.known.now in
    as-made P k p Then _ _ (crit-made k c.unchanged.result c.unchanged.ensures.same (c.crit.result + 1) (k.mover.critical + 1) (ap (λ d. d + 1) c.crit.ensures.depth)) (enter-left P k p form spot none (sym c.is_other_critical.ensures ∙ c.if-is_other_critical.false))
