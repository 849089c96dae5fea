-- Where there is a line and an aim, they are the ones that are compared. Where there is none, nothing is claimed.
use Rattle.std.proofs.Common.{Some, ◌≡◌, refl, sym, subst, ◌∙◌}
use Rattle.std.specs.Prelude.{slice_get}
use Rattle.std.proofs.lemmas.Bool.{false≢true, lt-ltb}
use Rattle.std.proofs.lemmas.Option.{none-some, same_Some, slice_get_read, slice_get_within}
use Rattle.fr_source.specs.Kept.{KeepsStep, tidied}
use Rattle.fr_source.proofs.visible.Comparison.keeps_line.Goals as goal

pub returns-in-Some-aim : goal.returns-in-Some-aim
returns-in-Some-aim c = λ is mark line aim there.
    let s = c.args.self.now in
    let t = tidied s.program.now.variables.items s.lines.now s.marks.now s.aims.now in
    let read : slice_get s.plain.now c.args.number ≡ Some c.in-Some.line.now = slice_get_read s.plain.now _ c.args.number _ refl c.requires.below c.in-Some.ensures.lookup.1 in
    let below = slice_get_within s.aims.now c.args.number (Some mark) aim in
    let aimed : slice_get s.aims.now c.args.number ≡ Some c.in-Some-get.aim.now = slice_get_read s.aims.now _ c.args.number _ refl below c.in-Some-get.ensures.lookup.1 in
    let same-line : c.in-Some.line.now ≡ line = same_Some _ _ (sym read ∙ there) in
    let same-mark : c.in-Some-aim.mark ≡ mark = same_Some _ _ (sym c.in-Some-aim.is ∙ same_Some _ _ (sym aimed ∙ aim)) in
    subst (λ m. KeepsStep t c.args.number m line.action line.to) same-mark
    (subst (λ l. KeepsStep t c.args.number c.in-Some-aim.mark l.action l.to) same-line (c.keeps_step.ensures is))

pub returns-in-None-aim : goal.returns-in-None-aim
returns-in-None-aim c = λ is mark line aim there.
    let aims = c.args.self.now.aims.now in
    let below = slice_get_within aims c.args.number (Some mark) aim in
    let aimed : slice_get aims c.args.number ≡ Some c.in-Some-get.aim.now = slice_get_read aims _ c.args.number _ refl below c.in-Some-get.ensures.lookup.1 in
    absurd (none-some mark (sym c.in-None-aim.is ∙ same_Some _ _ (sym aimed ∙ aim)))

pub returns-in_default : goal.returns-in_default
returns-in_default c = λ is mark line aim there.
    absurd (false≢true (c.in_default.ensures.lookup.0 ∙ lt-ltb _ _ c.requires.below))

pub returns-in-None : goal.returns-in-None
returns-in-None c = λ is mark line aim there.
    let below = slice_get_within c.args.self.now.aims.now c.args.number (Some mark) aim in
    absurd (false≢true (c.in-None.ensures.lookup.0 ∙ lt-ltb _ _ below))
