use Rattle.std.proofs.Common.{ℕ, ◌<◌, get_or, map}
use Rattle.std.specs.Prelude.{pos}
use Rattle.fr_notes.proofs.Terms.{IsPart, ends_of}
use Rattle.fr_notes.proofs.implication.ranges_imply.Given as goal

-- each range so far is part of the other one of its variable
abbrev pub invariant-loop-variable : goal.invariant-loop-variable
invariant-loop-variable l =
    (x : ℕ) → x < l.variable → IsPart (get_or (map ends_of l.ranges) x (pos 0, pos 0)) (get_or (map ends_of l.others) x (pos 0, pos 0))
