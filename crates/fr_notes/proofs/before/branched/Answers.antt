use Rattle.std.proofs.Common.{sym, subst}
use Rattle.fr_notes.proofs.Terms.{If, narrowed_to, Leaves}
use Rattle.fr_notes.proofs.VariableRows.{if-left, if-never}
use Rattle.fr_notes.proofs.BeforeLaws.{as-made, both-made, both-named}
use Rattle.fr_notes.proofs.before.branched.Goals as goal

pub returns-in_err-one : goal.returns-in_err-one
returns-in_err-one c = λ P target p spot none.
    let a = c.args in
    subst (λ x. Leaves P a.known.now p a.way x) (sym c.from_residual.ensures) (if-never P a.known.now p a.way a.left a.comparison a.right target spot c.in_err-one.ensures.none)

pub returns : goal.returns
returns c = λ P target p spot none.
    let a = c.args in
    let k = a.known.now in
    let one = c.in_ok-one.one in
    let two = c.in_ok-one.other in
    let i = If a.left a.comparison a.right target in
    let both = both-named P a.left a.right (spot.faultless.names.things p.actor.0 p.pc i spot.instr).0 in
    as-made P k p a.way _ _ (both-made k c.unchanged.result c.unchanged.ensures.same c.narrowed_to.result c.narrowed_to-2.result (narrowed_to a.left one) (narrowed_to a.right two) c.narrowed_to.ensures c.narrowed_to-2.ensures) (if-left P k p a.way a.left a.comparison a.right target one two spot none both.0 both.1 (spot.faultless.operands p.actor.0 p.pc i spot.instr) c.in_ok-one.ensures.some)
