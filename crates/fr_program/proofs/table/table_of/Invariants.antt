use Rattle.std.proofs.Common.{◌≡◌, ◌++◌, drop, map, length}
use Rattle.fr_program.specs.Points.{points_from}
use Rattle.fr_program.specs.PointNumbers.{starts_from}
use Rattle.fr_program.specs.View.{actor_of}
use Rattle.fr_program.proofs.table.table_of.Given as goal

-- the points and starts so far and those of the actors that are left are those of all actors
abbrev pub invariant-loop-a : goal.invariant-loop-a
invariant-loop-a l = record {
  points : l.points.items ++ points_from l.a (map actor_of (drop l.a l.actors)) ≡ points_from 0 (map actor_of l.actors);
  starts : map (λ v. v.items) l.starts.items ++ starts_from (length l.points.items) (map actor_of (drop l.a l.actors)) ≡ starts_from 0 (map actor_of l.actors);
}
