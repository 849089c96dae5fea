use Rattle.std.proofs.Common.{◌≡◌, sym, ap, subst}
use Rattle.std.specs.Prelude.{◌≢◌, ◌↔◌, IsTrue}
use Rattle.fr_effects.proofs.Terms.{IsPoint, NoteFits, note_at}
use Rattle.fr_effects.proofs.DisturbanceLaws.{numbered-point, same-point, each-undisturbed, undisturbed-there}
use Rattle.fr_effects.proofs.disturbance.undisturbed.Goals as goal

pub is_left-requires : goal.is_left-requires
is_left-requires c = subst (λ P. NoteFits P c.at.result.now) (sym (ap (λ a. a.now) c.in-Some.ensures.some.0)) c.at.ensures.fits

pub returns-else-point-mover : goal.returns-else-point-mover
returns-else-point-mover c = λ p q here there.
    let m = c.in-Some.mover in
    let is = c.in-Some.ensures.some in
    let app = ap (λ a. a.now) is.0 in
    let notes = ap (λ n. n.now) is.1 in
    let one = c.point-point.result in
    let note = c.at.result.now in
    let at = subst (λ P. IsPoint P one) (sym app) (numbered-point c.args.app.now c.recall_numbered.ensures c.args.number one c.point-point.ensures) in
    let is_note : note ≡ note_at m.app.now m.notes.now one = subst (λ P. note ≡ note_at P m.notes.now one) (sym app) (subst (λ ns. note ≡ note_at c.args.app.now ns one) (sym notes) (c.at.ensures.is one c.point-point.ensures)) in
    let ne : m.point.actor ≢ one.actor = λ e. c.if-point-mover.false (ap (λ a. a.0) (sym e)) in
    let each = c.is_left.ensures one at (λ e. ne (sym e)) in
    let both = each-undisturbed m.app.now m.notes.now one m.point (m.instr.now, m.has_instr, m.has_side) ne note m.note.now is_note m.has_note c.is_left.result each in
    subst (λ u. IsTrue c.is_left.result ↔ u) (undisturbed-there app notes (same-point c.args.app.now c.args.number one p c.point-point.ensures here) (same-point c.args.app.now c.args.other m.point q is.2 there)) both
