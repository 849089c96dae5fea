-- Each turn adds the lines of the next step.
use Rattle.std.proofs.Common.{◌≡◌, ◌+◌, ◌++◌, take, subst, sym, rules}
use Rattle.fr_wording.specs.Lines.{lines_text}
use Rattle.fr_changes.specs.Explained.{steps_in}
use Rattle.fr_report.specs.Refuted.{AreStepLines}
use Rattle.fr_report.proofs.RunLemmas.{lines-more}
use Rattle.fr_report.proofs.refuting.steps_lines.Goals as goal

pub loop-step-preserved : goal.loop-step-preserved
loop-step-preserved c =
    let P = c.args.app.now in
    let steps = c.args.steps.now in
    let k = c.loop-step.step-index in
    let was = c.loop-step.lines.items in
    let more = c.in_ok-more.more.items in
    let added : c.append.new.self.items ≡ was ++ more = search rules in
    subst (λ lines. AreStepLines c.args.explains P (steps_in (take (k + 1) steps)) (lines_text lines)) (sym added)
    (lines-more c.args.explains P steps k c.step-item.result was more c.loop-step-test.true c.step-item.is c.loop-step.invariant c.in_ok-more.ensures)
