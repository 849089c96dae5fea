use Rattle.std.proofs.Common.{◌≢◌, ℕ, ◌<◌, length, get_or, Bor, List}
use Rattle.fr_program.proofs.check.names.are_distinct.Given as goal

-- the names so far differ from each later one
abbrev pub invariant-loop-k : goal.invariant-loop-k
invariant-loop-k l =
    (i j : ℕ) (d : Bor (List ℕ)) → i < l.k → i < j → j < length l.names → (get_or l.names i d).now ≢ (get_or l.names j d).now
