-- For private clauses: the least point at which a delete is a danger to a point.
--
-- | word         | meaning                                                                    |
-- |--------------|----------------------------------------------------------------------------|
-- | IsDeleter    | the least point at which a delete is a danger to a point, or none          |
use Rattle.std.specs.Prelude.{◌<◌, List, Option, None, Some}
use Rattle.fr_program.specs.declared.ids.Point.{Point}
use Rattle.fr_program.specs.Program.{Program}
use Rattle.fr_program.specs.Lookup.{IsPoint}
use Rattle.fr_program.specs.Points.{point_number}
use Rattle.fr_notes.specs.Note.{Note}
use Rattle.fr_ends.specs.Guarded.{Near}

-- no delete is a danger to p; or the one at this point is, and none at a point with a lesser number
abbrev pub IsDeleter : Program → List Note → Point → Option Point → Type 0
IsDeleter P notes p None = (q : Point) → Near P notes p q
IsDeleter P notes p (Some q) =
    IsPoint P q × (Near P notes p q → ⊥)
    × ((other : Point) → IsPoint P other → point_number P other < point_number P q → Near P notes p other)
