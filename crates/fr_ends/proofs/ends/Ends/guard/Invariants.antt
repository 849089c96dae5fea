use Rattle.std.proofs.Common.{◌≡◌, map, drop}
use Rattle.fr_ends.specs.Certificate.{guard_for}
use Rattle.fr_ends.specs.View.{end_of}
use Rattle.fr_ends.proofs.ends.Ends.guard.Given as goal

-- no end before this one is the one that is looked for
abbrev pub invariant-loop-listed : goal.invariant-loop-listed
invariant-loop-listed l =
    guard_for (map end_of l.listed-items) l.end.buffer.0 l.end.end ≡ guard_for (map end_of (drop l.listed-index l.listed-items)) l.end.buffer.0 l.end.end
