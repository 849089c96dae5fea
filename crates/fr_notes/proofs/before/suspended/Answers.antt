use Rattle.std.proofs.Common.{◌+◌, ap}
use Rattle.fr_notes.proofs.Terms.{Then}
use Rattle.fr_notes.proofs.PlainRows.{suspend-left}
use Rattle.fr_notes.proofs.BeforeLaws.{as-made, susp-made}
use Rattle.fr_notes.proofs.before.suspended.Goals as goal

pub returns : goal.returns
returns c = λ P p spot none.
    let k = c.args.known.now in
    as-made P k p Then _ _ (susp-made k c.unchanged.result c.unchanged.ensures.same (c.susp.result + 1) (k.mover.suspended + 1) (ap (λ d. d + 1) c.susp.ensures.depth)) (suspend-left P k p spot none)
