use Rattle.std.proofs.Common.{◌≡◌, drop}
use Rattle.fr_cert.proofs.Terms.{items_view, alternative_tree, each_tree}
use Rattle.fr_cert.proofs.WrittenLemmas.{behind}
use Rattle.fr_cert.proofs.written_notes.alternatives_value.Given as goal

-- the alternatives that are left complete what there is
abbrev pub invariant-loop-alternative : goal.invariant-loop-alternative
invariant-loop-alternative l = behind (items_view l.list.items) (each_tree (alternative_tree l.app) (drop l.alternative-index l.alternatives)) ≡ each_tree (alternative_tree l.app) l.alternatives
