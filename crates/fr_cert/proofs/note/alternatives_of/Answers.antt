use Rattle.std.proofs.Common.{arith}
use Rattle.fr_cert.proofs.Terms.{items_view, AlternativeFits, IsPlainNote}
use Rattle.fr_cert.proofs.EntryLemmas.{each_same}
use Rattle.fr_cert.proofs.FaultLaws.{each_length}
use Rattle.fr_cert.proofs.note.alternatives_of.Goals as goal

pub returns-clause-ok : goal.returns-clause-ok
returns-clause-ok c =
    let P = c.args.scope.now in
    (each_same (IsPlainNote P) (AlternativeFits P) (items_view c.args.list.now.items) _ c.of.result c.in_ok-alternatives.ensures.ok c.of.ensures).0

pub returns-clause-some : goal.returns-clause-some
returns-clause-some c =
    let P = c.args.scope.now in
    let ds = items_view c.args.list.now.items in
    let each = each_same (IsPlainNote P) (AlternativeFits P) ds _ c.of.result c.in_ok-alternatives.ensures.ok c.of.ensures in
    omega (arith, each_length (IsPlainNote P) ds c.of.result each.0, c.in_ok-check_few.ensures.some)

pub returns-clause-fits : goal.returns-clause-fits
returns-clause-fits c =
    let P = c.args.scope.now in
    let ds = items_view c.args.list.now.items in
    let each = each_same (IsPlainNote P) (AlternativeFits P) ds _ c.of.result c.in_ok-alternatives.ensures.ok c.of.ensures in
    (omega (arith, each_length (IsPlainNote P) ds c.of.result each.0, c.in_ok-check_few.ensures.few), each.1)
