use Rattle.std.proofs.Common.{◌≡◌, ◌++◌, drop, length}
use Rattle.fr_program.specs.Points.{points_along}
use Rattle.fr_program.specs.PointNumbers.{starts_along}
use Rattle.fr_program.proofs.table.push_points_of_code.Given as goal

-- the points and starts so far and those of the code that is left are those of the whole code
abbrev pub invariant-loop-pc : goal.invariant-loop-pc
invariant-loop-pc l = record {
  points : l.points.items ++ points_along l.actor.0 l.pc (drop l.pc l.code) ≡ l.initial.points.items ++ points_along l.actor.0 0 l.code;
  starts : l.starts.items ++ starts_along (length l.points.items) (drop l.pc l.code) ≡ starts_along (length l.initial.points.items) l.code;
}
