use Rattle.std.proofs.Common.{◌<◌, ℕ, slice_index_or}
use Rattle.fr_notes.proofs.Terms.{NotHeld, ClaimImplies, joint_claim, claim_after}
use Rattle.fr_notes.proofs.kept.says_claims.Given as goal

abbrev pub invariant-loop-object : goal.invariant-loop-object
invariant-loop-object l = (o : ℕ) → o < l.object → ClaimImplies (claim_after l.change.claim o (joint_claim l.known o)) (slice_index_or l.claims o NotHeld)
