-- What holds an actor back, and what is asked on either side of an instruction.
use Rattle.std.proofs.Common.{inl, inr, ap, ◌∙◌}
use Rattle.fr_rules.specs.Rule.{first_forbidden}
use Rattle.fr_calls.proofs.Unforbidden.{held-back, free-before}
use Rattle.fr_calls.proofs.state.State.is_free.Goals as goal
use Rattle.fr_calls.proofs.state.State.is_free.Goals.{then-gives_unheld-via-then-gives_unheld, then-gives_unheld-via-else-gives_unheld+then-uses_dead}

pub returns-then-gives_unheld : goal.returns-then-gives_unheld
returns-then-gives_unheld c =
    let P = c.args.app.now in
    let S = c.args.self.now in
    let a = c.args.point.actor.0 in
    let i = c.args.instr.now in (
      (λ t. cc),
      (λ f. elim c.then-gives_unheld.branch [
        | then-gives_unheld-via-then-gives_unheld w ↦ absurd (held-back P S a i c.args.point.side (inl (c.gives_unheld.ensures.0 w.if-gives_unheld.true)) f)
        | then-gives_unheld-via-else-gives_unheld+then-uses_dead w ↦ absurd (held-back P S a i c.args.point.side (inr (w.uses_dead.ensures.0 w.if-uses_dead.true)) f)
      ]),
    )

pub returns : goal.returns
returns c =
    let P = c.args.app.now in
    let S = c.args.self.now in
    let a = c.args.point.actor.0 in
    let i = c.args.instr.now in
    free-before P S a i c.args.point.side c.first_forbidden.result c.is_none.result
    (λ g. let t = c.gives_unheld.ensures.1 g in let f = c.if-gives_unheld.false in cc)
    (λ u. let t = c.uses_dead.ensures.1 u in let f = c.if-uses_dead.false in cc)
    c.in_default.not-Inside
    (c.first_forbidden.ensures ∙ ap (λ condition. first_forbidden P condition i) c.condition-condition.ensures)
    c.is_none.ensures
