use Rattle.std.proofs.Common.{ℕ, ◌<◌, get_or}
use Rattle.fr_notes.proofs.Terms.{kind_of, NotHeld, CanClaim}
use Rattle.fr_notes.proofs.fits.claims_fit.Given as goal

-- each claim so far can be said of its object
abbrev pub invariant-loop-object : goal.invariant-loop-object
invariant-loop-object l = (o : ℕ) → o < l.object → CanClaim (kind_of l.app o) (get_or l.claims o NotHeld)
