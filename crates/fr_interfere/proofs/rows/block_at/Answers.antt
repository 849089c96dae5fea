use Rattle.std.proofs.Common.{get_or}
use Rattle.fr_interfere.proofs.Terms.{slice_get-get_or, Run}
use Rattle.fr_interfere.proofs.RowLaws.{has-run, run-listed}
use Rattle.fr_interfere.proofs.rows.block_at.Goals as goal

pub of-requires-clause-listed : goal.of-requires-clause-listed
of-requires-clause-listed c =
    let none : Run = record { from = 0; behind = 0 } in
    let r = get_or c.args.runs.now c.args.place none in
    let (above, most) = c.requires.runs c.args.place none c.requires.place in
    run-listed c.args.numbers.now r.from r.behind above most c.args.app.now c.requires.listed

pub returns : goal.returns
returns c =
    let none : Run = record { from = 0; behind = 0 } in
    let runs = c.args.runs.now in
    let place = c.args.place in
    has-run c.args.app.now c.args.notes.now c.args.numbers.now runs place (get_or runs place none) (slice_get-get_or runs place none c.requires.place) (c.requires.runs place none c.requires.place)
    c.of.result c.of.ensures.block c.of.ensures.numbers
