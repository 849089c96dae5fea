use Rattle.std.proofs.Common.{arith, ap, length}
use Rattle.fr_interfere.proofs.Terms.{length-map, object_of, MakesOne}
use Rattle.fr_interfere.proofs.SpoilerLaws.{one-more, none-yet, enough}
use Rattle.fr_interfere.proofs.spoilers.first_maker.Goals as goal

pub loop-object-init : goal.loop-object-init
loop-object-init c = λ p here. none-yet c.args.app.now c.args.notes.now p (MakesOne c.args.app.now)

pub loop-object-preserved : goal.loop-object-preserved
loop-object-preserved c = λ p here.
    one-more c.args.app.now c.args.notes.now p (MakesOne c.args.app.now) c.loop-object.object c.loop-object.least c.first_maker_of-maker.result c.lesser-least.result c.lesser-least.ensures
    (c.loop-object.invariant p here) (c.first_maker_of-maker.ensures p here)

pub returns : goal.returns
returns c = λ p here.
    let items = c.objects-object-end.result.now in
    let many = length-map items object_of in
    let same = ap (λ xs. length xs) c.objects-object-end.ensures in
    enough c.args.app.now c.args.notes.now p (MakesOne c.args.app.now) c.loop-object.object (length c.args.app.now.objects) (omega (arith, many, same, c.loop-object-test.false))
    c.loop-object.least (c.loop-object.invariant p here)
