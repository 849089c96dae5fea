use Rattle.std.proofs.Common.{sym, subst}
use Rattle.fr_interfere.proofs.Terms.{AreListed, WritesOne}
use Rattle.fr_interfere.proofs.RowLaws.{lists-listed, hulls-of}
use Rattle.fr_interfere.proofs.rows.Hulls.build_by.Goals as goal

pub blocks_by-requires-clause-listed : goal.blocks_by-requires-clause-listed
blocks_by-requires-clause-listed g c κs within =
    subst (AreListed c.args.app.now) (sym c.deref.ensures.value) (lists-listed c.args.app.now WritesOne c.in_ok-writing.writing.items c.in_ok-writing.ensures)

pub returns : goal.returns
returns g c =
    hulls-of c.args.app.now c.args.notes.now c.args.index.now c.recall_numbered.ensures c.in_ok-writing.writing.items c.in_ok-writing.ensures c.deref.result.now c.deref.ensures.value _
    c.in_ok-writers.ensures c.in_ok-lives.ensures c.in_ok-actors.ensures.each c.in_ok-actors.ensures.found
