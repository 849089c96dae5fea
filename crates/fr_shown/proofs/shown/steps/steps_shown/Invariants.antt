use Rattle.std.proofs.Common.{take}
use Rattle.fr_outcome.specs.Each.{Each}
use Rattle.fr_shown.specs.Shows.{IsStepShown}
use Rattle.fr_shown.proofs.shown.steps.steps_shown.Given as goal

-- the steps so far are shown
abbrev pub invariant-loop-step : goal.invariant-loop-step
invariant-loop-step l = Each (IsStepShown l.places.app.now) (take l.step-index l.steps) l.shown.items
