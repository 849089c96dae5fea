use Rattle.std.proofs.Common.{Some, rules}
use Rattle.fr_notes.proofs.Terms.{Pick, All-head, Then}
use Rattle.std.proofs.Common.{[], length, ◌<◌}
use Rattle.fr_notes.proofs.VariableRows.{pick-left}
use Rattle.fr_notes.proofs.BeforeLaws.{as-made, first-made}
use Rattle.fr_notes.proofs.before.picked.Goals as goal

pub returns : goal.returns
returns c = λ P p spot none.
    let k = c.args.known.now in
    let r = c.in_ok-range.range in
    as-made P k p Then _ _ (first-made k c.unchanged.result c.unchanged.ensures.same (Some (c.args.target, r))) (pick-left P k p c.args.target c.args.lo c.args.hi r spot none (All-head (λ x. x.0 < length P.variables) c.args.target [] (spot.faultless.names.things p.actor.0 p.pc (Pick c.args.target c.args.lo c.args.hi) spot.instr).0) (search rules) (search rules))
