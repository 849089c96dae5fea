-- Each turn shows the next step.
use Rattle.std.proofs.Common.{◌≡◌, ◌≤◌, ◌++◌, ◌∷◌, [], arith, length, rules}
use Rattle.fr_outcome.proofs.Printed.{each-all, each-next}
use Rattle.fr_shown.specs.Shows.{IsStepShown}
use Rattle.fr_shown.proofs.shown.steps.steps_shown.Goals as goal

pub loop-step-preserved : goal.loop-step-preserved
loop-step-preserved c =
    let was = c.loop-step.shown.items in
    let shown = c.in_ok-step_shown.field-0 in
    let pushed : c.push.new.self.items ≡ was ++ shown ∷ [] = search rules in
    each-next (IsStepShown c.args.places.now.app.now) c.args.steps.now c.loop-step.step-index c.step-item.result was c.push.new.self.items shown
    c.loop-step-test.true c.step-item.is pushed c.loop-step.invariant c.in_ok-step_shown.ensures

pub returns : goal.returns
returns c =
    let steps = c.args.steps.now in
    let k = c.loop-step.step-index in
    let ended : length steps ≤ k = omega (arith, c.loop-step-test.false) in
    each-all (IsStepShown c.args.places.now.app.now) steps k c.loop-step.shown.items ended c.loop-step.invariant
