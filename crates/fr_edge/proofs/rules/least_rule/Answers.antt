use Rattle.std.proofs.Common.{◌≡◌, ◌+◌, length, sym, subst, arith}
use Rattle.fr_edge.proofs.Terms.{NoteOutcome}
use Rattle.fr_edge.proofs.Lists.{note-step}
use Rattle.fr_edge.proofs.rules.least_rule.Goals as goal

pub loop-alternative-preserved : goal.loop-alternative-preserved
loop-alternative-preserved c =
    let items = c.alternatives-alternative-items.result.now in
    let k = c.loop-alternative.alternative-index in
    subst (λ v. NoteOutcome c.args.spot.now.app.now c.args.spot.now.point items (k + 1) v) (sym c.lesser-least.ensures) (note-step c.args.spot.now.app.now c.args.spot.now.point items k c.alternative-item.result c.loop-alternative-test.true c.alternative-item.is c.loop-alternative.least c.rule_breached.result c.loop-alternative.invariant c.rule_breached.ensures)

pub returns : goal.returns
returns c =
    let items = c.alternatives-alternative-items.result.now in
    let same = c.alternatives-alternative-items.ensures in
    let e : c.loop-alternative.alternative-index ≡ length items = omega arith in
    subst (λ note. NoteOutcome c.args.spot.now.app.now c.args.spot.now.point note (length note) c.loop-alternative.least) same (subst (λ k. NoteOutcome c.args.spot.now.app.now c.args.spot.now.point items k c.loop-alternative.least) e c.loop-alternative.invariant)
