use Rattle.std.proofs.Common.{take}
use Rattle.fr_wording.specs.Lines.{lines_text}
use Rattle.fr_changes.specs.Explained.{steps_in}
use Rattle.fr_report.specs.Refuted.{AreStepLines}
use Rattle.fr_report.proofs.refuting.steps_lines.Given as goal

-- the lines so far are those of the steps so far
abbrev pub invariant-loop-step : goal.invariant-loop-step
invariant-loop-step l = AreStepLines l.explains l.app (steps_in (take l.step-index l.steps)) (lines_text l.lines.items)
