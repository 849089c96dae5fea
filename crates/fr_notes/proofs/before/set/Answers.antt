use Rattle.std.proofs.Common.{Some, length, ◌<◌, ◌++◌}
use Rattle.fr_notes.proofs.Terms.{All-head, All-tail, operand_variables, Set, Then}
use Rattle.fr_notes.proofs.VariableRows.{set-left}
use Rattle.fr_notes.proofs.BeforeLaws.{as-made, first-made, both-named, set-apart}
use Rattle.fr_notes.proofs.before.set.Goals as goal

pub returns : goal.returns
returns c = λ P p spot none.
    let k = c.args.known.now in
    let a = c.args in
    let r = c.result-range.result in
    let rest = operand_variables a.left ++ operand_variables a.right in
    let names = (spot.faultless.names.things p.actor.0 p.pc (Set a.target a.left a.operator a.right) spot.instr).0 in
    let both = both-named P a.left a.right (All-tail (λ x. x.0 < length P.variables) a.target rest names) in
    as-made P k p Then _ _ (first-made k c.unchanged.result c.unchanged.ensures.same (Some (a.target, r))) (set-left P k p a.target a.left a.operator a.right r spot none (All-head (λ x. x.0 < length P.variables) a.target rest names) both.0 both.1 (set-apart a.target a.left a.operator a.right (spot.faultless.operands p.actor.0 p.pc (Set a.target a.left a.operator a.right) spot.instr)) c.result-range.ensures)
