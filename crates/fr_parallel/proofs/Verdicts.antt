-- From the least failing number to the verdict.
use Rattle.std.proofs.Common.{◌≡◌, ℕ, ◌<◌, length, refl}
use Rattle.std.specs.Prelude.{Some, slice_get}
use Rattle.fr_program.specs.declared.ids.Point.{Point}
use Rattle.fr_program.specs.Program.{Program}
use Rattle.fr_program.specs.Lookup.{IsPoint}
use Rattle.fr_program.specs.Points.{points_of, point_number}
use Rattle.fr_program.proofs.PointLaws.{points_are_numbered}
use Rattle.fr_ends.specs.Certificate.{Certificate}
use Rattle.fr_judge.specs.declared.part.Part.{Part as Told}
use Rattle.fr_judge.specs.declared.part.Verdict.TheVariants.{Yes as TellsYes, No as TellsNo}
use Rattle.fr_judge.specs.Verdict.{Yes}
use Rattle.fr_judge.specs.Told.{TellsFirst, TellsVerdict}
use Rattle.fr_judge.proofs.Points.{KeepsBelow, all-keep, first-failure}
use Rattle.fr_worker.specs.Kept.{KeepsAt}

pub listed-point : (P : Program) (n : ℕ) (p : Point) → slice_get (points_of P) n ≡ Some p → IsPoint P p
listed-point P n p at = ((points_are_numbered P).listed n p at).0

module _ (P : Program) (C : Certificate) where
  -- numbers that are kept are points that keep every part
  keeps-below : (n : ℕ) → ((k : ℕ) → k < n → KeepsAt P C k) → KeepsBelow P C n
  keeps-below n keeps p is lt = keeps (point_number P p) lt p ((points_are_numbered P).at p is)

  pub tells-yes : ((k : ℕ) → k < length (points_of P) → KeepsAt P C k) → TellsVerdict P C TellsYes
  tells-yes keeps =
      (Yes, refl, all-keep P C (keeps-below (length (points_of P)) keeps))

  pub tells-no : (n : ℕ) (p : Point) (told : Told) → slice_get (points_of P) n ≡ Some p → TellsFirst P C p (Some told) → ((k : ℕ) → k < n → KeepsAt P C k) → TellsVerdict P C (TellsNo p told)
  tells-no n p told at first keeps =
      first-failure P C n p told (keeps-below n keeps) at first
