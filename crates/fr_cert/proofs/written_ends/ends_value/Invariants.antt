use Rattle.std.proofs.Common.{◌≡◌, drop}
use Rattle.fr_cert.proofs.Terms.{items_view, end_of, end_tree, each_tree}
use Rattle.fr_cert.proofs.WrittenLemmas.{behind}
use Rattle.fr_cert.proofs.written_ends.ends_value.Given as goal

-- the ends that are left complete what there is
abbrev pub invariant-loop-end : goal.invariant-loop-end
invariant-loop-end l = behind (items_view l.list.items) (each_tree (λ e. end_tree l.app (end_of e)) (drop l.end-index l.listed)) ≡ each_tree (λ e. end_tree l.app (end_of e)) l.listed
