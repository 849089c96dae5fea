use Rattle.std.proofs.Common.{sym, ap, ◌∙◌}
use Rattle.fr_notes.proofs.Terms.{mover_claim, resulting}
use Rattle.fr_notes.proofs.EndLaws.{fails-left, never-fails}
use Rattle.fr_notes.proofs.inside.Ending.fails.Goals as goal

pub returns : goal.returns
returns c =
    let e = c.args.self in
    let k = c.args.known.now in
    let span = c.only.result in
    fails-left k e.kind e.holding e.call span c.resulting.result c.only.ensures.lo c.only.ensures.hi (sym c.can_fail.ensures ∙ c.if-not-can_fail.false)
    (c.resulting.ensures ∙ ap (λ claim. resulting k e.call.object claim c.failed_into-into.result span) c.claim.ensures ∙ ap (λ into. resulting k e.call.object (mover_claim e.holding) into span) c.failed_into-into.ensures)

pub returns-then-not-can_fail : goal.returns-then-not-can_fail
returns-then-not-can_fail c =
    let e = c.args.self in
    never-fails c.args.known.now e.kind e.holding e.call (sym c.can_fail.ensures ∙ c.if-not-can_fail.true)
