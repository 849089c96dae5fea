use Rattle.fr_interfere.proofs.Terms.{StaysAt}
use Rattle.fr_effects.proofs.IndexLaws.{AreChecked}
use Rattle.fr_interfere.proofs.staying.all_stay.Given as goal

-- so it is of the leavers so far
abbrev pub invariant-loop-number : goal.invariant-loop-number
invariant-loop-number l = AreChecked l.app (λ q. StaysAt l.app l.notes q) l.number-items l.number-index
