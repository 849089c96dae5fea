-- One item more, and its line.
use Rattle.std.proofs.Common.{◌++◌, [], ◌∷◌, get_or, string_bytes, subst, sym, take}
use Rattle.std.proofs.lemmas.List.{take_more}
use Rattle.std.specs.Prelude.{pos}
use Rattle.fr_explained.specs.declared.item.Item.{Item}
use Rattle.fr_explained.specs.declared.item.Item.TheVariants.{Step}
use Rattle.fr_trail.specs.Runs.{IsRunText}
use Rattle.fr_trail.proofs.RunLaws.{run-more}
use Rattle.fr_trail.proofs.run_text.run_text.Goals as goal

pub loop-item-preserved : goal.loop-item-preserved
loop-item-preserved c =
    let P = c.args.app.now in
    let items = c.args.run.now in
    let k = c.loop-item.item-index in
    let none : Item = Step (record { actor = record { 0 = 0 }; choice = pos 0 }) in
    let item = get_or items k none in
    let h = c.in_ok-put_item.ensures in
    subst (λ xs. IsRunText P xs (string_bytes c.put_item.new.text)) (sym (take_more items k none c.loop-item-test.true))
    (subst (λ t. IsRunText P (take k items ++ item ∷ []) t) (sym h.2)
    (run-more P (take k items) item (string_bytes c.loop-item.text) h.0 c.loop-item.invariant h.1))
