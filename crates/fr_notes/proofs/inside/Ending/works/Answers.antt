use Rattle.std.proofs.Common.{sym, ap, ◌∙◌, subst}
use Rattle.fr_notes.proofs.Terms.{Then, mover_claim, EndLeaves, resulting}
use Rattle.fr_notes.proofs.EndLaws.{works-left, works-never, no-span}
use Rattle.fr_notes.proofs.inside.Ending.works.Goals as goal

pub returns-in_err-holding : goal.returns-in_err-holding
returns-in_err-holding c =
    let e = c.args.self in
    subst (λ x. EndLeaves c.args.known.now e.kind e.holding e.call Then x) (sym c.from_residual.ensures)
    (works-never c.args.known.now e.kind e.holding e.call (sym c.worked.ensures ∙ c.in_err-holding.was))

pub returns-in_err-range : goal.returns-in_err-range
returns-in_err-range c =
    let e = c.args.self in
    subst (λ x. EndLeaves c.args.known.now e.kind e.holding e.call Then x) (sym c.from_residual-in_err-range.ensures)
    (no-span c.args.known.now e.kind e.holding e.call c.in_err-range.ensures.none)

pub returns : goal.returns
returns c =
    let e = c.args.self in
    let k = c.args.known.now in
    let span = c.in_ok-range.range in
    works-left k e.kind e.holding e.call c.in_ok-holding.holding span c.resulting.result (sym c.worked.ensures ∙ c.in_ok-holding.was) c.in_ok-range.ensures.some
    (c.resulting.ensures ∙ ap (λ claim. resulting k e.call.object claim c.written-into.result span) c.claim.ensures ∙ ap (λ into. resulting k e.call.object (mover_claim c.in_ok-holding.holding) into span) c.written-into.ensures)
