-- One mark more.
use Rattle.std.proofs.Common.{◌≡◌, ◌+◌, ⊎_elim, length, sym, subst, ◌∙◌, arith}
use Rattle.std.proofs.lemmas.List.{length_push}
use Rattle.fr_source.specs.Kept.{AreMarks, Marked}
use Rattle.fr_source.proofs.Push.{get-push}
use Rattle.fr_source.proofs.visible.marks_of.Goals as goal

pub loop-number-preserved : goal.loop-number-preserved
loop-number-preserved c =
    let old = c.loop-number.marks.items in
    let mark = c.mark_of.result in
    let variables = c.args.program.now.variables.items in
    let lines = c.args.lines.now in
    let long = c.loop-number.invariant.0 in
    let more = length_push old mark in
    subst (λ ms. (length ms ≡ c.loop-number.number + 1) × AreMarks variables lines ms) (sym c.in_ok-push.ensures.items) (
      omega (arith, long, more),
      (λ n m there. ⊎_elim (λ h. c.loop-number.invariant.1 n m h)
          (λ h. subst (Marked variables lines n) h.1 (subst (λ k. Marked variables lines k mark) (sym long ∙ sym h.0) c.mark_of.ensures))
          (get-push old mark m n there)),
    )
