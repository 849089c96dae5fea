-- Each list of the index is one of rising numbers of points.
use Rattle.std.proofs.Common.{◌≡◌, Some, length, sym, ap, ◌∙◌, subst, arith}
use Rattle.fr_interfere.proofs.Terms.{length-map, object_of, made_of, AreListed}
use Rattle.fr_interfere.proofs.RowLaws.{lists-listed, rows-none, rows-more}
use Rattle.fr_interfere.proofs.rows.maker_rows.Goals as goal

pub loop-object-init : goal.loop-object-init
loop-object-init c = rows-none c.args.app.now c.args.notes.now c.args.index.now.lives c.new-rows.result.items c.new-rows.ensures.items

pub row_of-requires-clause-listed : goal.row_of-requires-clause-listed
row_of-requires-clause-listed c =
    let P = c.args.app.now in
    let x = c.loop-object.object in
    let many = sym (length-map c.objects-object-end.result.now object_of) ∙ ap (λ xs. length xs) c.objects-object-end.ensures in
    subst (AreListed P) (sym c.lives.ensures) (lists-listed P (λ e. made_of e ≡ Some x) _ (c.requires.index.lives x (omega (arith, many, c.loop-object-test.true))))

pub loop-object-preserved : goal.loop-object-preserved
loop-object-preserved c =
    rows-more c.args.app.now c.args.notes.now c.args.index.now.lives c.loop-object.object c.loop-object.rows.items c.push.new.self.items c.loop-object.invariant.many c.loop-object.invariant.rows
    c.in_ok-row_of.field-0 c.in_ok-push.ensures.items c.lives.result.now c.lives.ensures c.in_ok-row_of.ensures
