use Rattle.std.proofs.Common.{◌≡◌, ℕ, ◌<◌, get_or}
use Rattle.fr_interfere.proofs.Terms.{VarId, Range, IsApart}
use Rattle.fr_interfere.proofs.hull.excludes_range.Given as goal

-- none of the ranges so far is apart
abbrev pub invariant-loop-entry : goal.invariant-loop-entry
invariant-loop-entry l = (k : ℕ) (e : VarId × Range) → k < l.entry-index → get_or l.ranges k e ≡ e → IsApart e l.alternative → ⊥
