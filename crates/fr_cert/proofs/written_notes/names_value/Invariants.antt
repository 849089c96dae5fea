use Rattle.std.proofs.Common.{◌≡◌, drop, map}
use Rattle.fr_cert.proofs.Terms.{items_view, object_of, says, names_where}
use Rattle.fr_cert.proofs.WrittenLemmas.{behind}
use Rattle.fr_cert.proofs.written_notes.names_value.Given as goal

-- the objects that are left complete what there is
abbrev pub invariant-loop-index : goal.invariant-loop-index
invariant-loop-index l =
    behind (items_view l.names.items) (names_where (says l.life) (map object_of (drop l.index l.objects)) (drop l.index l.claims)) ≡ names_where (says l.life) (map object_of l.objects) l.claims
