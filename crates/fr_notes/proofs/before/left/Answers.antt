use Rattle.std.proofs.Common.{◌-◌, ◌≤◌, ap, arith}
use Rattle.fr_notes.proofs.Terms.{Then}
use Rattle.fr_notes.proofs.PlainRows.{exit-left}
use Rattle.fr_notes.proofs.BeforeLaws.{as-made, crit-made}
use Rattle.fr_notes.proofs.before.left.Goals as goal

pub returns : goal.returns
returns c = λ P form p spot none.
    let k = c.args.known.now in
    let depth = c.crit-depth.ensures.depth in
    let deep : 1 ≤ k.mover.critical = omega (arith, depth, c.if-depth-eq0.false) in
    as-made P k p Then _ _ (crit-made k c.unchanged.result c.unchanged.ensures.same (c.crit-depth.result - 1) (k.mover.critical - 1) (ap (λ d. d - 1) depth)) (exit-left P k p form spot none deep)
