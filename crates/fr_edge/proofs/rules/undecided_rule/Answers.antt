use Rattle.std.proofs.Common.{sym, ◌∙◌, ap, subst}
use Rattle.fr_edge.proofs.Terms.{joint_range, HasNumbersIn, gives_unheld, uses_dead, creates_live, StaysIn, IsOutBy}
use Rattle.fr_edge.proofs.RuleLaws.{given-first, uses-first, creates-first, out-first, none-broken, has-numbers}
use Rattle.fr_edge.proofs.rules.undecided_rule.Goals as goal

pub gives_unheld-requires : goal.gives_unheld-requires
gives_unheld-requires c = c.recall_faultless.ensures.names.things _ _ _ c.args.spot.now.has_instr

pub returns-then-gives_unheld : goal.returns-then-gives_unheld
returns-then-gives_unheld c =
    let given = sym (c.gives_unheld.ensures ∙ ap (λ k. gives_unheld c.args.spot.now.app.now k c.args.spot.now.instr.now) c.alone-known.ensures) in
    given-first c.args.spot.now.app.now c.args.spot.now.point c.args.spot.now.instr.now c.args.alternative.now c.recall_faultless.ensures (c.args.spot.now.instr.now, c.args.spot.now.has_instr, c.args.spot.now.has_side) c.args.spot.now.has_instr c.requires.fits (given ∙ c.if-gives_unheld.true)

pub returns-then-uses_dead : goal.returns-then-uses_dead
returns-then-uses_dead c =
    let given = sym (c.gives_unheld.ensures ∙ ap (λ k. gives_unheld c.args.spot.now.app.now k c.args.spot.now.instr.now) c.alone-known.ensures) in
    let uses = sym (c.uses_dead.ensures ∙ ap (λ k. uses_dead k c.args.spot.now.instr.now c.args.spot.now.point.side) c.alone-known.ensures) in
    uses-first c.args.spot.now.app.now c.args.spot.now.point c.args.spot.now.instr.now c.args.alternative.now c.recall_faultless.ensures (c.args.spot.now.instr.now, c.args.spot.now.has_instr, c.args.spot.now.has_side) c.args.spot.now.has_instr c.requires.fits (given ∙ c.if-gives_unheld.false) (uses ∙ c.if-uses_dead.true)

pub returns-then-creates_live : goal.returns-then-creates_live
returns-then-creates_live c =
    let given = sym (c.gives_unheld.ensures ∙ ap (λ k. gives_unheld c.args.spot.now.app.now k c.args.spot.now.instr.now) c.alone-known.ensures) in
    let uses = sym (c.uses_dead.ensures ∙ ap (λ k. uses_dead k c.args.spot.now.instr.now c.args.spot.now.point.side) c.alone-known.ensures) in
    let creates = sym (c.creates_live.ensures ∙ ap (λ k. creates_live k c.args.spot.now.instr.now c.args.spot.now.point.side) c.alone-known.ensures) in
    creates-first c.args.spot.now.app.now c.args.spot.now.point c.args.spot.now.instr.now c.args.alternative.now c.recall_faultless.ensures (c.args.spot.now.instr.now, c.args.spot.now.has_instr, c.args.spot.now.has_side) c.args.spot.now.has_instr c.requires.fits (given ∙ c.if-gives_unheld.false) (uses ∙ c.if-uses_dead.false) (creates ∙ c.if-creates_live.true)

pub stays_in_range-requires-clause-numbers : goal.stays_in_range-requires-clause-numbers
stays_in_range-requires-clause-numbers c =
    subst (λ k. HasNumbersIn (joint_range k)) (sym c.alone-known.ensures) (has-numbers c.args.spot.now.app.now c.args.alternative.now c.recall_faultless.ensures c.requires.fits)

pub stays_in_range-requires-clause-names : goal.stays_in_range-requires-clause-names
stays_in_range-requires-clause-names c = c.recall_faultless.ensures.names.things _ _ _ c.args.spot.now.has_instr

pub returns-then-stays_in_range : goal.returns-then-stays_in_range
returns-then-stays_in_range c =
    let given = sym (c.gives_unheld.ensures ∙ ap (λ k. gives_unheld c.args.spot.now.app.now k c.args.spot.now.instr.now) c.alone-known.ensures) in
    let uses = sym (c.uses_dead.ensures ∙ ap (λ k. uses_dead k c.args.spot.now.instr.now c.args.spot.now.point.side) c.alone-known.ensures) in
    let creates = sym (c.creates_live.ensures ∙ ap (λ k. creates_live k c.args.spot.now.instr.now c.args.spot.now.point.side) c.alone-known.ensures) in
    none-broken c.args.spot.now.app.now c.args.spot.now.point c.args.spot.now.instr.now c.args.alternative.now c.recall_faultless.ensures (c.args.spot.now.instr.now, c.args.spot.now.has_instr, c.args.spot.now.has_side) c.args.spot.now.has_instr c.requires.fits (given ∙ c.if-gives_unheld.false) (uses ∙ c.if-uses_dead.false) (creates ∙ c.if-creates_live.false) (subst (λ k. StaysIn c.args.spot.now.app.now k c.args.spot.now.point.side c.args.spot.now.instr.now) c.alone-known.ensures (c.stays_in_range.ensures.stays c.if-stays_in_range.true))

pub returns-else-stays_in_range : goal.returns-else-stays_in_range
returns-else-stays_in_range c =
    let given = sym (c.gives_unheld.ensures ∙ ap (λ k. gives_unheld c.args.spot.now.app.now k c.args.spot.now.instr.now) c.alone-known.ensures) in
    let uses = sym (c.uses_dead.ensures ∙ ap (λ k. uses_dead k c.args.spot.now.instr.now c.args.spot.now.point.side) c.alone-known.ensures) in
    let creates = sym (c.creates_live.ensures ∙ ap (λ k. creates_live k c.args.spot.now.instr.now c.args.spot.now.point.side) c.alone-known.ensures) in
    out-first c.args.spot.now.app.now c.args.spot.now.point c.args.spot.now.instr.now c.args.alternative.now c.recall_faultless.ensures (c.args.spot.now.instr.now, c.args.spot.now.has_instr, c.args.spot.now.has_side) c.args.spot.now.has_instr c.requires.fits (given ∙ c.if-gives_unheld.false) (uses ∙ c.if-uses_dead.false) (creates ∙ c.if-creates_live.false) (subst (λ k. IsOutBy c.args.spot.now.app.now k c.args.spot.now.point.side c.args.spot.now.instr.now) c.alone-known.ensures (c.stays_in_range.ensures.leaves c.if-stays_in_range.false))
