use Rattle.std.proofs.lemmas.Result.{err_from_is_err_and}
use Rattle.fr_reader.specs.Texts.{IsText}
use Rattle.fr_reader.specs.Faults.{InLine}
use Rattle.fr_reader.specs.Views.{line_text}
use Rattle.fr_reader.proofs.EntryLemmas.{each_more, each_wrong, each_all}
use Rattle.fr_reader.proofs.actor.lines_of.Goals as goal

pub returns-in_err-line_of-clause-err : goal.returns-in_err-line_of-clause-err
returns-in_err-line_of-clause-err c =
    let p = err_from_is_err_and c.from_residual.result c.from_residual.ensures.1 in
    rw (p.1, p.2) (each_wrong (λ i. InLine c.args.name) c.args.array.now.items _ c.loop-value.value-index c.value-item.result c.in_err-line_of.field-0.0
    c.deref-value-items.ensures.value c.loop-value-test.true c.value-item.is c.in_err-line_of.ensures.err)

pub loop-value-preserved : goal.loop-value-preserved
loop-value-preserved c =
    each_more (IsText) (line_text) c.args.array.now.items _ c.loop-value.value-index c.value-item.result c.loop-value.lines.items c.push.new.self.items c.in_ok-line_of.field-0
    c.deref-value-items.ensures.value c.loop-value-test.true c.loop-value.invariant c.value-item.is c.in_ok-line_of.ensures.ok c.in_ok-push.ensures.items

pub returns-clause-ok : goal.returns-clause-ok
returns-clause-ok c =
    each_all (IsText) (line_text) c.args.array.now.items _ c.loop-value.value-index c.loop-value.lines.items c.deref-value-items.ensures.value c.loop-value-test.false c.loop-value.invariant
