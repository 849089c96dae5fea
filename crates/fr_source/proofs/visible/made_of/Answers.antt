-- One line more.
use Rattle.std.proofs.Common.{◌≡◌, ◌+◌, ⊎_elim, length, sym, subst, ◌∙◌, arith}
use Rattle.std.proofs.lemmas.List.{length_push}
use Rattle.fr_source.specs.Kept.{AreMade, MadeAt}
use Rattle.fr_source.proofs.Push.{get-push}
use Rattle.fr_source.proofs.visible.made_of.Goals as goal

pub loop-number-preserved : goal.loop-number-preserved
loop-number-preserved c =
    let old = c.loop-number.lines.items in
    let new = c.in-Some.line in
    let plain = c.args.plain.now in
    let kept = c.args.kept.now in
    let long = c.loop-number.invariant.0 in
    subst (λ ls. (length ls ≡ c.loop-number.number + 1) × AreMade plain kept ls) (sym c.in_ok-push.ensures.items) (
      omega (arith, long, length_push old new),
      (λ n line is. ⊎_elim (λ h. c.loop-number.invariant.1 n line h)
          (λ h. subst (MadeAt plain kept n) h.1 (subst (λ k. MadeAt plain kept k new) (sym long ∙ sym h.0) c.in-Some.ensures))
          (get-push old new line n is)),
    )
