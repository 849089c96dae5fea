use Rattle.std.proofs.Common.{◌≡◌, List, ◌++◌, map}
use Rattle.fr_cert.proofs.Terms.{members_view, Entry, EachMember}
use Rattle.fr_cert.proofs.reader.each_member.Given as goal

-- the members in front gave the items so far
abbrev pub invariant-loop-name : goal.invariant-loop-name
invariant-loop-name g l =
    (front : List Entry) × (l.object.entries ≡ front ++ l.name-iterator) × EachMember (g.M.Member.Means l.reader l.scope) (members_view front) (map g.M.Member.seen l.items.items)
