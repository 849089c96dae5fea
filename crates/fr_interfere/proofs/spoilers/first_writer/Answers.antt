use Rattle.std.proofs.Common.{arith, ap, length}
use Rattle.fr_interfere.proofs.Terms.{length-map, variable_of, WritesInside}
use Rattle.fr_interfere.proofs.SpoilerLaws.{one-more, none-yet, enough}
use Rattle.fr_interfere.proofs.spoilers.first_writer.Goals as goal

pub loop-variable-init : goal.loop-variable-init
loop-variable-init c = λ p here. none-yet c.args.app.now c.args.notes.now p (WritesInside c.args.app.now c.args.notes.now)

pub loop-variable-preserved : goal.loop-variable-preserved
loop-variable-preserved c = λ p here.
    one-more c.args.app.now c.args.notes.now p (WritesInside c.args.app.now c.args.notes.now) c.loop-variable.variable c.loop-variable.least c.first_writer_of-writer.result c.lesser-least.result c.lesser-least.ensures
    (c.loop-variable.invariant p here) (c.first_writer_of-writer.ensures p here)

pub returns : goal.returns
returns c = λ p here.
    let items = c.variables-variable-end.result.now in
    let many = length-map items variable_of in
    let same = ap (λ xs. length xs) c.variables-variable-end.ensures in
    enough c.args.app.now c.args.notes.now p (WritesInside c.args.app.now c.args.notes.now) c.loop-variable.variable (length c.args.app.now.variables) (omega (arith, many, same, c.loop-variable-test.false))
    c.loop-variable.least (c.loop-variable.invariant p here)
