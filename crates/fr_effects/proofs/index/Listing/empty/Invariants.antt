use Rattle.std.proofs.Common.{◌≡◌, [], map}
use Rattle.std.specs.Prelude.{replicate}
use Rattle.fr_effects.proofs.index.Listing.empty.Given as goal

-- so many empty lists so far
abbrev pub invariant-loop-place : goal.invariant-loop-place
invariant-loop-place l = map (λ list. list.items) l.lists.items ≡ replicate l._place []
