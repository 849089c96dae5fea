use Rattle.std.proofs.Common.{ℕ, ◌<◌, get_or}
use Rattle.fr_notes.proofs.Terms.{NotHeld, ClaimsMeet}
use Rattle.fr_notes.proofs.pairs.each_claim_meets.Given as goal

-- each two claims of one object so far can be true of it
abbrev pub invariant-loop-object : goal.invariant-loop-object
invariant-loop-object l = (o : ℕ) → o < l.object → ClaimsMeet (get_or l.claims o NotHeld) (get_or l.others o NotHeld)
