use Rattle.std.proofs.Common.{sym, subst}
use Rattle.fr_edge.proofs.Terms.{RuleOutcome, AnyRule}
use Rattle.fr_edge.proofs.RuleLaws.{both-outcomes}
use Rattle.fr_edge.proofs.rules.rule_breached.Goals as goal

pub returns : goal.returns
returns c =
    subst (λ least. RuleOutcome c.args.spot.now.app.now c.args.spot.now.point c.args.alternative.now AnyRule least) (sym c.lesser.ensures) (both-outcomes c.args.spot.now.app.now c.args.spot.now.point c.args.alternative.now c.decided_rule.result c.undecided_rule.result c.decided_rule.ensures c.undecided_rule.ensures)
