use Rattle.std.proofs.Common.{◌<◌, ℕ}
use Rattle.fr_rules.specs.State.{content_of}
use Rattle.fr_notes.specs.Note.{Meets, claim_of}
use Rattle.fr_witness.proofs.claims.object_broken.Given as goal

-- the claims so far are true
abbrev pub invariant-loop-number : goal.invariant-loop-number
invariant-loop-number l = (o : ℕ) → o < l.number → Meets l.actor.0 (claim_of l.alternative o) (content_of l.state o)
