use Rattle.std.proofs.lemmas.Result.{err_from_is_err_and}
use Rattle.fr_reader.specs.Texts.{IsTableOf, IsObject}
use Rattle.fr_reader.specs.Faults.{InEntryAt, InObject}
use Rattle.fr_reader.specs.Views.{object_text}
use Rattle.fr_reader.specs.declared.key.Key.TheVariants as key
use Rattle.fr_reader.specs.declared.key.TableName.TheVariants as name
use Rattle.fr_reader.proofs.EntryLemmas.{each_more, each_wrong, each_all}
use Rattle.fr_reader.proofs.object.objects_of.Goals as goal

pub returns-in_err-entry_of-clause-err : goal.returns-in_err-entry_of-clause-err
returns-in_err-entry_of-clause-err c =
    let p = err_from_is_err_and c.from_residual.result c.from_residual.ensures.1 in
    rw (p.1, p.2) (each_wrong (InEntryAt key.Object name.Object InObject) c.args.array.now.items _ c.loop-index.index c.value-item.result c.in_err-entry_of.field-0.0
    c.deref-value-items.ensures.value c.loop-index-test.true c.value-item.is c.in_err-entry_of.ensures.err)

pub loop-index-preserved : goal.loop-index-preserved
loop-index-preserved c =
    each_more (IsTableOf IsObject) (object_text) c.args.array.now.items _ c.loop-index.index c.value-item.result c.loop-index.objects.items c.push.new.self.items c.in_ok-entry_of.field-0
    c.deref-value-items.ensures.value c.loop-index-test.true c.loop-index.invariant c.value-item.is c.in_ok-entry_of.ensures.ok c.in_ok-push.ensures.items

pub returns-clause-ok : goal.returns-clause-ok
returns-clause-ok c =
    each_all (IsTableOf IsObject) (object_text) c.args.array.now.items _ c.loop-index.index c.loop-index.objects.items c.deref-value-items.ensures.value c.loop-index-test.false c.loop-index.invariant
