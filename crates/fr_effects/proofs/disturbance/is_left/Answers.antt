use Rattle.std.proofs.Common.{sym, subst}
use Rattle.fr_effects.proofs.Terms.{AllBear, IsComputable}
use Rattle.fr_effects.proofs.BearLaws.{computable, borne-spared}
use Rattle.fr_effects.proofs.disturbance.is_left.Goals as goal

pub effect_of-effect-requires : goal.effect_of-effect-requires
effect_of-effect-requires c =
    let q = c.args.mover.now in
    c.recall_faultless.ensures.names.things q.point.actor.0 q.point.pc q.instr.now q.has_instr

pub all_bear-requires-clause-computable : goal.all_bear-requires-clause-computable
all_bear-requires-clause-computable c =
    let q = c.args.mover.now.point in
    let fits = c.recall_faultless.ensures.operands q.actor.0 q.pc c.args.mover.now.instr.now c.args.mover.now.has_instr in
    subst (λ e. IsComputable e) (sym c.effect_of-effect.ensures) (computable c.args.mover.now.app.now q.side c.args.mover.now.instr.now fits)

pub returns-then-all_bear : goal.returns-then-all_bear
returns-then-all_bear c = λ p at ne. (
  λ t.
      borne-spared c.args.mover.now.app.now c.recall_faultless.ensures p c.args.mover.now.point ne c.args.mover.now.instr.now c.args.mover.now.has_instr c.args.note.now c.args.mover.now.note.now (subst (λ e. AllBear e c.args.mover.now.note.now c.args.note.now) c.effect_of-effect.ensures (c.all_bear.ensures.0 t)),
  λ each. c.if-all_bear.true,
)
