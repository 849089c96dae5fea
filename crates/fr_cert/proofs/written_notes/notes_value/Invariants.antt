use Rattle.std.proofs.Common.{◌≡◌, drop}
use Rattle.fr_cert.proofs.Terms.{items_view, note_tree, each_tree}
use Rattle.fr_cert.proofs.WrittenLemmas.{behind}
use Rattle.fr_cert.proofs.written_notes.notes_value.Given as goal

-- the notes that are left complete what there is
abbrev pub invariant-loop-number : goal.invariant-loop-number
invariant-loop-number l = behind (items_view l.list.items) (each_tree (note_tree l.app) (drop l.number l.notes)) ≡ each_tree (note_tree l.app) l.notes
