use Rattle.std.proofs.Common.{refl, sym, subst}
use Rattle.fr_effects.proofs.Terms.{Then, Else, KnownFits, meet-compatible}
use Rattle.fr_effects.proofs.DisturbanceLaws.{unmet-spares, by-row}
use Rattle.fr_effects.proofs.disturbance.is_spared.Goals as goal

pub returns-then-not-can_meet : goal.returns-then-not-can_meet
returns-then-not-can_meet c = λ p at ne. (
  λ t.
      unmet-spares c.args.mover.now.app.now p c.args.mover.now.point ne c.args.alternative.now c.args.other.now c.requires.alternative c.requires.other c.args.note.now (λ meet.
      let t = c.can_meet.ensures.1 meet in
      let f = c.if-not-can_meet.true in cc),
  λ spared. refl,
)

pub is_spared_by_row-requires-clause-fits : goal.is_spared_by_row-requires-clause-fits
is_spared_by_row-requires-clause-fits c =
    subst (λ k. KnownFits c.args.mover.now.app.now k) (sym c.beside-known.ensures) (record { mover = c.requires.other; other = (c.requires.alternative, meet-compatible c.args.other.now c.args.alternative.now (c.can_meet.ensures.0 c.if-not-can_meet.false)) })

pub returns-then-is_spared_by_row : goal.returns-then-is_spared_by_row
returns-then-is_spared_by_row c = λ p at ne.
    let one = by-row c.args.mover.now.app.now p c.args.mover.now.point c.args.alternative.now c.args.other.now c.args.note.now Then c.beside-known.result c.beside-known.ensures c.is_spared_by_row.result c.is_spared_by_row.ensures at ne in
    let k = c.is_spared_by_row-then-is_spared_by_row in
    let other = by-row c.args.mover.now.app.now p c.args.mover.now.point c.args.alternative.now c.args.other.now c.args.note.now Else c.beside-known.result c.beside-known.ensures k.result k.ensures at ne in
    (λ t. (one.0 c.if-is_spared_by_row.true, other.0 t), λ spared. other.1 spared.1)

pub returns-else-is_spared_by_row : goal.returns-else-is_spared_by_row
returns-else-is_spared_by_row c = λ p at ne.
    let one = by-row c.args.mover.now.app.now p c.args.mover.now.point c.args.alternative.now c.args.other.now c.args.note.now Then c.beside-known.result c.beside-known.ensures c.is_spared_by_row.result c.is_spared_by_row.ensures at ne in
    (λ t. cc, λ spared. let t = one.1 spared.0 in let f = c.if-is_spared_by_row.false in cc)
