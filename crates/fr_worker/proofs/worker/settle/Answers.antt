use Rattle.std.proofs.Common.{rules, ℕ, ap, ◌∙◌, subst}
use Rattle.fr_board.specs.declared.progress.Outcome.TheVariants.{Failed}
use Rattle.fr_board.specs.declared.progress.Progress.{Progress}
use Rattle.fr_board.specs.Progress.{after_outcome}
use Rattle.fr_worker.specs.Kept.{KeepsAt}
use Rattle.fr_worker.proofs.Failing.{told-fails}
use Rattle.fr_worker.proofs.worker.settle.Goals as goal

pub returns-in-Some-clause-settled : goal.returns-in-Some-clause-settled
returns-in-Some-clause-settled g c =
    let number = c.number-number in
    let fails = told-fails c.args.judging.now.app c.args.judging.now.certificate number.result c.in-Some.field-0 (search rules) c.in-Some.ensures.first in (
      Failed,
      c.look.result,
      subst (λ (n : ℕ). KeepsAt c.args.judging.now.app c.args.judging.now.certificate n → ⊥) number.ensures fails,
      c.failed.ensures.failed ∙ ap (λ (z : Progress). after_outcome z c.args.claim Failed) c.look.ensures.looked,
    )
