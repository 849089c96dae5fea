use Rattle.std.proofs.Common.{◌≤◌, length, false, sym, ◌∙◌, inl, inr, arith}
use Rattle.fr_interfere.proofs.Terms.{get_or_past}
use Rattle.fr_interfere.proofs.ClosedLaws.{unset-here}
use Rattle.fr_interfere.proofs.RowLaws.{spared-points}
use Rattle.fr_interfere.proofs.rows.is_told.Goals as goal

pub returns-then-spares-clause-told : goal.returns-then-spares-clause-told
returns-then-spares-clause-told c = λ p here yes.
    inl (spared-points c.args.app.now c.recall_faultless.ensures c.args.notes.now c.requires.fit c.args.number p here c.point.result c.point.ensures c.at.result.now (c.at.ensures.is p here)
    c.args.block.now.hull c.args.block.now.numbers.items c.requires.block.under (c.spares.ensures.0 c.if-spares.true))

pub returns-then-actor-closed-clause-told : goal.returns-then-actor-closed-clause-told
returns-then-actor-closed-clause-told c = λ p here yes. inr (c.in-Some.actor, sym c.only_actor.ensures ∙ c.in-Some.is, unset-here c.args.closed.now c.in-Some.actor.0)

pub returns-else-actor-closed-clause-told : goal.returns-else-actor-closed-clause-told
returns-else-actor-closed-clause-told c = λ p here yes.
    let past : length c.args.closed.now ≤ c.in-Some.actor.0 = omega arith in
    inr (c.in-Some.actor, sym c.only_actor.ensures ∙ c.in-Some.is, get_or_past c.args.closed.now c.in-Some.actor.0 false past)
