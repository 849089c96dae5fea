use Rattle.std.proofs.Common.{◌<◌, length, arith, ap}
use Rattle.std.proofs.lemmas.List.{length-map}
use Rattle.std.proofs.lemmas.Int.{ints}
use Rattle.fr_program.specs.Limits.{VariableInLimits}
use Rattle.fr_program.specs.View.{variable_of}
use Rattle.fr_program.proofs.ListLemmas.{All-read_map}
use Rattle.fr_program.proofs.app.App.range.Goals as goal

pub invariant_of-result : goal.invariant_of-result
invariant_of-result c =
    let items = c.self.inside.parts.variables.items in
    let v = c.index-variable.result.now in
    let n = length-map items variable_of in
    let same = ap (λ p. length p.variables) c.self.view_is in
    let below : c.args.x.0 < length items = omega (arith, n, same) in
    let within : VariableInLimits (variable_of v) = All-read_map VariableInLimits variable_of items c.args.x.0 v below c.index-variable.ensures c.self.invariant.faultless.limits.variables in
    record { ordered = omega (arith, ints) }
