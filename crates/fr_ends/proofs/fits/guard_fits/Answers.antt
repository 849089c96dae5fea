use Rattle.std.proofs.Common.{arith}
use Rattle.fr_ends.specs.View.{values_of}
use Rattle.fr_ends.proofs.TurnLemmas.{turn_fits}
use Rattle.fr_ends.proofs.fits.guard_fits.Goals as goal

pub returns-then-variable-variable_count : goal.returns-then-variable-variable_count
returns-then-variable-variable_count c =
    rw c.in-Turn.is (turn_fits c.args.app.now c.in-Turn.variable.0 (values_of c.in-Turn.values) c.values_fit.result
    (omega (arith, c.if-variable-variable_count.true, c.variable_count.ensures)) (c.values_fit.ensures c.in-Turn.variable.0))
