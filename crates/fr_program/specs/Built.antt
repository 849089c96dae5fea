-- What is true of every application that was built.
use Rattle.std.specs.Prelude.{◌≡◌, map}
use Rattle.fr_program.specs.declared.app.App.TheInside.{Inside}
use Rattle.fr_program.specs.View.{program_of}
use Rattle.fr_program.specs.Points.{points_of}
use Rattle.fr_program.specs.PointNumbers.{starts_from}
use Rattle.fr_program.specs.Fault.{IsFaultless}

-- its points and their starts are those of its parts, in which no fault is present
pub record IsBuilt (a : Inside) : Type 0 where
  pub points : a.points.items ≡ points_of (program_of a.parts)
  pub starts : map (λ v. v.items) a.starts.items ≡ starts_from 0 (program_of a.parts).actors
  pub faultless : IsFaultless (program_of a.parts)
