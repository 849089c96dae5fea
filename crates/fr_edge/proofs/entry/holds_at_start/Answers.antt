use Rattle.std.proofs.Common.{◌≡◌, sym, ◌∙◌}
use Rattle.fr_edge.proofs.StartLaws.{start-holds, start-tells, begins-in, in-begins, claims-begin, begin-claims}
use Rattle.fr_edge.proofs.entry.holds_at_start.Goals as goal

pub returns-then-critical-ne0 : goal.returns-then-critical-ne0
returns-then-critical-ne0 c = λ a.
    (λ h. cc, λ h. absurd (c.if-critical-ne0.true (c.critical.ensures ∙ (start-tells c.args.app.now c.args.alternative.now c.requires a h).0)))

pub returns-then-suspended-ne0 : goal.returns-then-suspended-ne0
returns-then-suspended-ne0 c = λ a.
    (λ h. cc, λ h. absurd (c.if-suspended-ne0.true (c.suspended.ensures ∙ (start-tells c.args.app.now c.args.alternative.now c.requires a h).1)))

pub returns-then-not-begins_with_claims : goal.returns-then-not-begins_with_claims
returns-then-not-begins_with_claims c = λ a.
    let n = c.args.alternative.now in (
      λ h. cc,
      λ h.
          let t = c.begins_with_claims.ensures.1 (begin-claims c.args.app.now n c.claims.result.now c.objects.result.now (sym c.claims.ensures) c.objects.ensures (start-tells c.args.app.now n c.requires a h).2) in
          let f = c.if-not-begins_with_claims.true in cc,
    )

pub returns : goal.returns
returns c = λ a.
    let b = c.begins_with_ranges.ensures in
    let n = c.args.alternative.now in
    let crit : n.critical ≡ 0 = sym c.critical.ensures ∙ c.if-critical-ne0.false in
    let susp : n.suspended ≡ 0 = sym c.suspended.ensures ∙ c.if-suspended-ne0.false in
    let is = sym c.ranges-2.ensures in (
      λ h. start-holds c.args.app.now n c.requires crit susp (claims-begin c.args.app.now n c.claims.result.now c.objects.result.now (sym c.claims.ensures) c.objects.ensures (c.begins_with_claims.ensures.0 c.if-not-begins_with_claims.false)) (begins-in c.args.app.now n c.ranges-2.result.now c.variables.result.now is c.variables.ensures (b.0 h)) a,
      λ h.
          b.1 (in-begins c.args.app.now n c.ranges-2.result.now c.variables.result.now is c.variables.ensures (start-tells c.args.app.now n c.requires a h).3),
    )
