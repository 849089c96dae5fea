use Rattle.fr_interfere.proofs.HullLaws.{Grown, IsWiderClaim, HasClaim}
use Rattle.fr_interfere.proofs.hull.cover_claims.Given as goal

-- the claims so far can meet what the alternative's can meet, and each what it could meet
abbrev pub invariant-loop-entry : goal.invariant-loop-entry
invariant-loop-entry l = Grown IsWiderClaim (HasClaim l.alternative) l.fn.claims l.claims l.entry-index
