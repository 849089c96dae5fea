use Rattle.fr_effects.proofs.Terms.{IsIndexBelow}
use Rattle.fr_effects.proofs.index.Index.build.Given as goal

-- the index has the points so far
abbrev pub invariant-loop-number : goal.invariant-loop-number
invariant-loop-number l = IsIndexBelow l.app l.number l.index
