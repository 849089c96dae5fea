use Rattle.fr_interfere.proofs.Terms.{IsUnder}
use Rattle.fr_effects.proofs.IndexLaws.{AreChecked}
use Rattle.fr_interfere.proofs.hull.Hull.of.Given as goal

-- the points so far are under the hull
abbrev pub invariant-loop-number : goal.invariant-loop-number
invariant-loop-number l = AreChecked l.app (λ q. IsUnder l.app l.notes l.hull q) l.numbers l.number-index
