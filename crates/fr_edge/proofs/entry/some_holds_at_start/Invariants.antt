use Rattle.std.proofs.Common.{ℕ, ◌<◌, get_or}
use Rattle.fr_edge.proofs.Terms.{start, Alternative, HoldsOne}
use Rattle.fr_edge.proofs.entry.some_holds_at_start.Given as goal

-- none of the alternatives so far holds
abbrev pub invariant-loop-alternative : goal.invariant-loop-alternative
invariant-loop-alternative l = (a k : ℕ) (d : Alternative) → k < l.alternative-index → HoldsOne (get_or l.alternative-items k d) a (start l.app) → ⊥
