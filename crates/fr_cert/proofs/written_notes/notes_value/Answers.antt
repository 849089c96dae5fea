use Rattle.std.proofs.Common.{◌≡◌, ◌∙◌, ◌<◌, ◌≤◌, [], length, sym, subst, arith}
use Rattle.fr_cert.proofs.Terms.{get_or_default, NoteFits, note_tree}
use Rattle.fr_cert.proofs.WrittenLemmas.{tree_more, tree_end}
use Rattle.fr_cert.proofs.written_notes.notes_value.Goals as goal

pub note_value-requires : goal.note_value-requires
note_value-requires c =
    let within : c.loop-number.number < length c.args.notes.now = omega arith in
    subst (NoteFits c.args.app.now) (sym c.note.ensures) (c.requires.1 c.loop-number.number [] within)

pub loop-number-preserved : goal.loop-number-preserved
loop-number-preserved c =
    let i = c.loop-number.number in
    let notes = c.args.notes.now in
    let within : i < length notes = omega arith in
    tree_more (note_tree c.args.app.now) notes i c.note.result.now c.loop-number.list.items c.push.new.self.items c.in_ok-note_value.field-0
    within (c.note.ensures ∙ get_or_default notes i [] c.note.result.now within) c.in_ok-note_value.ensures c.in_ok-push.ensures.items c.loop-number.invariant

pub returns : goal.returns
returns c =
    let end : length c.args.notes.now ≤ c.loop-number.number = omega arith in
    tree_end (note_tree c.args.app.now) c.args.notes.now c.loop-number.number c.loop-number.list.items end c.loop-number.invariant
