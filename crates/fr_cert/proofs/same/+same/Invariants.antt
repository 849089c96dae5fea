use Rattle.std.proofs.Common.{◌≡◌, drop}
use Rattle.fr_cert.proofs.Terms.{items_view, members_view}
use Rattle.fr_cert.proofs.same.+same.Given as goal

-- where the rest is the same, the whole is
abbrev pub invariant-are_same_items-loop-index : goal.invariant-are_same_items-loop-index
invariant-are_same_items-loop-index l = items_view (drop l.index l.items.items) ≡ items_view (drop l.index l.others.items) → items_view l.items.items ≡ items_view l.others.items

abbrev pub invariant-are_same_members-loop-name : goal.invariant-are_same_members-loop-name
invariant-are_same_members-loop-name l = members_view l.name-iterator ≡ members_view l.rest → members_view l.members.entries ≡ members_view l.others.entries
