use Rattle.std.proofs.Common.{◌≡◌, ◌++◌, ℕ, ℤ, List, length, map}
use Rattle.fr_cert.proofs.Terms.{ActorId, value_for, AreRising, value_of, values_of}
use Rattle.fr_cert.proofs.guard.by_actor.Given as goal

-- the map has the values that were taken from the end
abbrev pub invariant-loop-actor : goal.invariant-loop-actor
invariant-loop-actor l =
    (done : List (ActorId × ℤ)) × (l.fn.given.items ≡ l.given.items ++ done)
    × ((a : ℕ) → value_for (values_of l.values) a ≡ value_for (map value_of done) a) × AreRising (values_of l.values)

abbrev pub decreases-loop-actor : goal.decreases-loop-actor
decreases-loop-actor l = length l.given.items
