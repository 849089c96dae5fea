-- Points and their numbers are inverse, and the table by which a number is found.
use Rattle.std.specs.Prelude.{◌≡◌, ℕ, ◌+◌, List, [], ◌∷◌, Some, slice_get}
use Rattle.fr_program.specs.declared.instr.Instr.{Instr}
use Rattle.fr_program.specs.declared.ids.Point.{Point}
use Rattle.fr_program.specs.Program.{Program, ActorOf}
use Rattle.fr_program.specs.Lookup.{IsPoint}
use Rattle.fr_program.specs.Points.{points_of, point_number, count_of_instr, count_of_actor}

-- by instruction, the number of the point before it, where the first one has this number
abbrev pub starts_along : ℕ → List Instr → List ℕ
starts_along n [] = []
starts_along n (i ∷ code) = n ∷ starts_along (n + count_of_instr i) code

-- the same by actor and instruction
abbrev pub starts_from : ℕ → List ActorOf → List (List ℕ)
starts_from n [] = []
starts_from n (actor ∷ actors) = starts_along n actor.code ∷ starts_from (n + count_of_actor actor) actors

-- points and their numbers are inverse: each point is at its number, and the list has points alone
pub record PointsAreNumbered (P : Program) : Type 0 where
  pub at : (p : Point) → IsPoint P p → slice_get (points_of P) (point_number P p) ≡ Some p
  pub listed : (k : ℕ) (p : Point) → slice_get (points_of P) k ≡ Some p → IsPoint P p × (point_number P p ≡ k)
