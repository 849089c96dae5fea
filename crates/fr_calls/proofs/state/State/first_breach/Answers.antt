-- The rules are asked in the order of their numbers.
use Rattle.std.proofs.Common.{arith}
use Rattle.fr_calls.proofs.Breached.{is-none, none-more, least, none-at-all}
use Rattle.fr_calls.proofs.state.State.first_breach.Goals as goal

pub returns-in-Some-clause-first : goal.returns-in-Some-clause-first
returns-in-Some-clause-first c =
    least c.args.app.now c.args.self.now c.loop-rule.rule-index _ c.in-Some.actor.0 (omega arith) c.loop-rule.invariant c.in-Some.ensures.some.0 c.in-Some.ensures.some.1

pub loop-rule-preserved : goal.loop-rule-preserved
loop-rule-preserved c =
    none-more c.args.app.now c.args.self.now c.loop-rule.rule-index _ (omega arith) c.loop-rule.invariant
    (is-none c.first_to_breach.result c.first_to_breach.ensures.none c.in_default.not-Some)

pub returns-clause-first : goal.returns-clause-first
returns-clause-first c = none-at-all c.args.app.now c.args.self.now c.loop-rule.rule-index (omega arith) c.loop-rule.invariant
