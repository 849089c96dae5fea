use Rattle.std.proofs.Common.{AllPairs, map, take}
use Rattle.fr_cert.proofs.Terms.{items_view, EachEntry}
use Rattle.fr_cert.proofs.reader.each_entry.Given as goal

-- the entries in front gave the items so far, no two of them alike
abbrev pub invariant-loop-index : goal.invariant-loop-index
invariant-loop-index g l = record {
  said : EachEntry (g.E.Entry.Means l.reader l.scope) (items_view (take l.index l.list.items)) (map g.E.Entry.seen l.items.items);
  apart : AllPairs (λ x y. g.E.Entry.AreAlike x y → ⊥) (map g.E.Entry.seen l.items.items);
}
