use Rattle.std.proofs.Common.{◌≡◌, ◌<◌, ℕ, length, slice_index_or}
use Rattle.fr_ends.specs.declared.guard.EndGuard.{EndGuard}
use Rattle.fr_ends.proofs.fits.are_apart.Given as goal

-- no end before this one is listed again
abbrev pub invariant-loop-index : goal.invariant-loop-index
invariant-loop-index l =
    (i j : ℕ) (d : EndGuard) → i < j → j < length l.ends → i < l.index → (slice_index_or l.ends i d).end ≡ (slice_index_or l.ends j d).end → ⊥
