-- Each turn shows the next warning.
use Rattle.std.proofs.Common.{◌≡◌, ◌≤◌, ◌++◌, ◌∷◌, [], arith, length, rules}
use Rattle.fr_outcome.proofs.Printed.{each-all, each-next}
use Rattle.fr_shown.specs.Shows.{IsSameWarning}
use Rattle.fr_shown.proofs.shown.warnings_shown.Goals as goal

pub loop-warning-preserved : goal.loop-warning-preserved
loop-warning-preserved c =
    let was = c.loop-warning.shown.items in
    let shown = c.in_ok-warning_shown.field-0 in
    let pushed : c.push.new.self.items ≡ was ++ shown ∷ [] = search rules in
    each-next IsSameWarning c.args.warnings.now c.loop-warning.warning-index c.warning-item.result was c.push.new.self.items shown
    c.loop-warning-test.true c.warning-item.is pushed c.loop-warning.invariant c.in_ok-warning_shown.ensures

pub returns : goal.returns
returns c =
    let warnings = c.args.warnings.now in
    let k = c.loop-warning.warning-index in
    let ended : length warnings ≤ k = omega (arith, c.loop-warning-test.false) in
    each-all IsSameWarning warnings k c.loop-warning.shown.items ended c.loop-warning.invariant
