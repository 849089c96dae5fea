use Rattle.std.proofs.Common.{ℕ, ◌<◌, get_or}
use Rattle.fr_notes.proofs.Terms.{NotHeld, ClaimImplies}
use Rattle.fr_notes.proofs.implication.claims_imply.Given as goal

-- each claim so far implies the other one of its object
abbrev pub invariant-loop-object : goal.invariant-loop-object
invariant-loop-object l = (o : ℕ) → o < l.object → ClaimImplies (get_or l.claims o NotHeld) (get_or l.others o NotHeld)
