use Rattle.std.proofs.Common.{◌<◌, ℕ, slice_index_or}
use Rattle.fr_notes.proofs.Terms.{NotHeld, claim_of, ClaimImplies, other_after}
use Rattle.fr_notes.specs.Known.{joined}
use Rattle.fr_notes.proofs.kept.spares_claims.Given as goal

abbrev pub invariant-loop-object : goal.invariant-loop-object
invariant-loop-object l = (o : ℕ) → o < l.object → ClaimImplies (other_after l.change.claim o (joined (claim_of l.other o) (claim_of l.known.mover o))) (slice_index_or l.claims o NotHeld)
