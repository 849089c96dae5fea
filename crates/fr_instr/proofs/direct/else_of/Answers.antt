use Rattle.std.proofs.Common.{◌≡◌, ◌∙◌, sym, codes}
use Rattle.std.proofs.lemmas.Slice.Eq.{bytes_eq-Decides}
use Rattle.fr_instr.proofs.DirectLaws.{else_read}
use Rattle.fr_instr.proofs.direct.else_of.Goals as goal

pub returns-then-is_blank-2 : goal.returns-then-is_blank-2
returns-then-is_blank-2 c =
    let word = c.in_ok-word in
    let digits = c.in_ok-digits in
    let same : word.word.now ≡ codes "else" = (bytes_eq-Decides word.word.now c.as_slice.result.now).0 (sym c.eq.ensures ∙ c.if-eq.true) ∙ c.as_slice.ensures in
    else_read c.args.tail c.args.text.now word.rest.now digits.rest.now word.word.now digits.digits.now c.in_ok-target.target word.ensures digits.ensures (sym c.is_blank-then-eq.ensures ∙ c.if-is_blank-2.true) same
    (sym c.may_fail.ensures ∙ c.if-may_fail.true) c.in_ok-target.ensures.some
