use Rattle.std.proofs.Common.{sym, ◌∙◌, subst, ◌↔◌, IsTrue}
use Rattle.std.specs.Prelude.{not}
use Rattle.std.proofs.lemmas.Option.{same_Some}
use Rattle.fr_ends.specs.Guarded.{Near}
use Rattle.fr_ends.proofs.NearLaws.{near-both}
use Rattle.fr_ends.proofs.nearness.near.Goals as goal

pub returns : goal.returns
returns c = λ p q here there.
    let P = c.args.app.now in
    let notes = c.args.notes.now in
    let one = c.point-point.result in
    let other = c.point-other_point.result in
    let left = same_Some _ _ (sym c.point-point.ensures ∙ here) in
    let right = same_Some _ _ (sym c.point-other_point.ensures ∙ there) in
    let at = (c.recall_numbered.ensures.listed c.args.number one c.point-point.ensures).0 in
    let stands = (c.recall_numbered.ensures.listed c.args.other other c.point-other_point.ensures).0 in
    let both = near-both P one other c.recall_faultless.ensures at stands notes c.at-note.result.now c.at-other_note.result.now (c.at-note.ensures.is one c.point-point.ensures) (c.at-other_note.ensures.is other c.point-other_point.ensures) c.at-note.ensures.fits c.at-other_note.ensures.fits (sym c.if-not-deletes_used.ensures) c.together.result c.together.ensures in
    subst (λ x. IsTrue (not c.together.result) ↔ Near P notes x q) left (subst (λ y. IsTrue (not c.together.result) ↔ Near P notes one y) right both)
