-- To each name so far as many edits lead as the least or more, and the least lead to the one that is found.
use Rattle.std.proofs.Common.{◌≡◌, ◌≤◌, All, IfNone, IfSome, take}
use Rattle.fr_place.specs.Nearness.{IsFound, edits, too_many}
use Rattle.fr_place.proofs.nearness.nearest.Given as goal

abbrev pub invariant-loop-name : goal.invariant-loop-name
invariant-loop-name l = record {
  found : IfSome l.found (IsFound l.word l.names l.least);
  none : IfNone l.found (l.least ≡ too_many l.word);
  least : All (λ name. l.least ≤ edits l.word name.now) (take l.name-index l.names);
}
