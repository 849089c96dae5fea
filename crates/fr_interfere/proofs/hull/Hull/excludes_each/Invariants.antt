use Rattle.std.proofs.Common.{ℕ, ◌<◌, get_or}
use Rattle.fr_interfere.proofs.Terms.{Alternative, Excludes}
use Rattle.fr_interfere.proofs.hull.Hull.excludes_each.Given as goal

-- so it is of the alternatives so far
abbrev pub invariant-loop-alternative : goal.invariant-loop-alternative
invariant-loop-alternative l = (k : ℕ) (d : Alternative) → k < l.alternative-index → Excludes l.self (get_or l.alternative-items k d)
