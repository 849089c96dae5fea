-- One row after the other.
use Rattle.std.proofs.Common.{length, refl, sym, ap, ◌∙◌, arith}
use Rattle.fr_interfere.proofs.Terms.{length-map, variable_of, list_at}
use Rattle.fr_interfere.proofs.RowLaws.{rows-none, rows-more}
use Rattle.fr_interfere.proofs.rows.writer_rows.Goals as goal

pub loop-variable-init : goal.loop-variable-init
loop-variable-init c = rows-none c.args.app.now c.args.notes.now c.args.index.now.writers c.new-rows.result.items c.new-rows.ensures.items

pub row_of_variable-requires-clause-variable : goal.row_of_variable-requires-clause-variable
row_of_variable-requires-clause-variable c =
    let many = sym (length-map c.variables-variable-end.result.now variable_of) ∙ ap (λ xs. length xs) c.variables-variable-end.ensures in
    omega (arith, many, c.loop-variable-test.true)

pub loop-variable-preserved : goal.loop-variable-preserved
loop-variable-preserved c =
    let lists = c.args.index.now.writers in
    let x = c.loop-variable.variable in
    rows-more c.args.app.now c.args.notes.now lists x c.loop-variable.rows.items c.push.new.self.items c.loop-variable.invariant.many c.loop-variable.invariant.rows
    c.in_ok-row_of_variable.field-0 c.in_ok-push.ensures.items (list_at lists x) refl c.in_ok-row_of_variable.ensures
