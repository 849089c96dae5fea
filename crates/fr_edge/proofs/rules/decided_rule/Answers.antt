use Rattle.std.proofs.Common.{sym, ◌∙◌, ap}
use Rattle.fr_edge.proofs.Terms.{first_forbidden, condition_known}
use Rattle.fr_edge.proofs.RuleLaws.{decided-before, decided-inside}
use Rattle.fr_edge.proofs.rules.decided_rule.Goals as goal

pub first_forbidden-requires : goal.first_forbidden-requires
first_forbidden-requires c = c.recall_faultless.ensures.names.things _ _ _ c.args.spot.now.has_instr

pub returns-in-Before : goal.returns-in-Before
returns-in-Before c =
    decided-before c.args.spot.now.app.now c.args.spot.now.point c.args.spot.now.instr.now c.args.alternative.now c.recall_faultless.ensures (c.args.spot.now.instr.now, c.args.spot.now.has_instr, c.args.spot.now.has_side) c.args.spot.now.has_instr c.requires.fits c.in-Before.is c.first_forbidden.result (sym (c.first_forbidden.ensures ∙ ap (λ k. first_forbidden c.args.spot.now.app.now k c.args.spot.now.instr.now) (c.condition_at-condition.ensures ∙ ap (λ k. condition_known c.args.spot.now.app.now k c.args.spot.now.point) c.alone-known.ensures)))

pub returns-in-Inside : goal.returns-in-Inside
returns-in-Inside c =
    decided-inside c.args.spot.now.app.now c.args.spot.now.point c.args.spot.now.instr.now c.args.alternative.now c.recall_faultless.ensures (c.args.spot.now.instr.now, c.args.spot.now.has_instr, c.args.spot.now.has_side) c.args.spot.now.has_instr c.requires.fits c.in-Inside.is
