use Rattle.std.proofs.Common.{sym, subst}
use Rattle.fr_effects.proofs.Terms.{HasTarget, IsComputable}
use Rattle.fr_effects.proofs.BearLaws.{computable}
use Rattle.fr_effects.proofs.EffectLaws.{has-target}
use Rattle.fr_effects.proofs.effects.effect_at.Goals as goal

pub effect_of-requires : goal.effect_of-requires
effect_of-requires c =
    let q = c.point-point.result in
    c.recall_faultless.ensures.names.things q.actor.0 q.pc c.in-Some.instr.now (sym c.in-Some.ensures)

pub returns-in-Some-clause-computable : goal.returns-in-Some-clause-computable
returns-in-Some-clause-computable c =
    let q = c.point-point.result in
    let fits = c.recall_faultless.ensures.operands q.actor.0 q.pc c.in-Some.instr.now (sym c.in-Some.ensures) in
    subst (λ e. IsComputable e) (sym c.effect_of.ensures) (computable c.args.app.now q.side c.in-Some.instr.now fits)

pub returns-in-Some-clause-target : goal.returns-in-Some-clause-target
returns-in-Some-clause-target c =
    let q = c.point-point.result in
    let names = c.recall_faultless.ensures.names.things q.actor.0 q.pc c.in-Some.instr.now (sym c.in-Some.ensures) in
    subst (λ e. HasTarget c.args.app.now e) (sym c.effect_of.ensures) (has-target c.args.app.now q.side c.in-Some.instr.now names)
