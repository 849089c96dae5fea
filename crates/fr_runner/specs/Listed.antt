-- For private clauses: the choices of a set of them, in rising order.
use Rattle.std.specs.Prelude.{◌+ℤ◌, ◌-ℤ◌, ◌+◌, ℕ, zero, suc, ℤ, pos, List, [], ◌∷◌, nat_abs}
use Rattle.fr_calls.specs.declared.moves.Moves.{Moves}
use Rattle.fr_calls.specs.declared.moves.Moves.TheVariants.{None as NoMove, Span, Pair}

-- so many numbers, the first of which is this one
abbrev pub numbers_from : ℤ → ℕ → List ℤ
numbers_from lo zero = []
numbers_from lo (suc n) = lo ∷ numbers_from (lo +ℤ pos 1) n

-- the choices of the set, in rising order
abbrev pub listed : Moves → List ℤ
listed NoMove = []
listed (Span lo hi) = numbers_from lo (nat_abs (hi -ℤ lo) + 1)
listed (Pair a b) = a ∷ b ∷ []
