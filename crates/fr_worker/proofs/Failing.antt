-- A part that fails at a number's point.
use Rattle.std.proofs.Common.{◌≡◌, ℕ, zero, suc, ◌<◌, List, [], ◌∷◌, length, refl, arith}
use Rattle.std.specs.Prelude.{Some, slice_get}
use Rattle.fr_program.specs.declared.ids.Point.{Point}
use Rattle.fr_program.specs.Program.{Program}
use Rattle.fr_program.specs.Points.{points_of}
use Rattle.fr_ends.specs.Certificate.{Certificate}
use Rattle.fr_judge.specs.declared.part.Part.{Part as Told}
use Rattle.fr_judge.specs.Verdict.{KeepsAll}
use Rattle.fr_judge.specs.Told.{TellsFirst}
use Rattle.fr_worker.specs.Kept.{KeepsAt}

module _ (P : Program) (C : Certificate) where
  -- a part that fails at a number's point says that the number isn't kept
  pub told-fails : (number : ℕ) (told : Told) → number < length (points_of P) → ((p : Point) → slice_get (points_of P) number ≡ Some p → TellsFirst P C p (Some told)) → KeepsAt P C number → ⊥
  told-fails number told below first keeps = not_kept (points_of P) number below first keeps
    where
      not_kept : (points : List Point) (number : ℕ) → number < length points → ((p : Point) → slice_get points number ≡ Some p → TellsFirst P C p (Some told)) → ((p : Point) → slice_get points number ≡ Some p → KeepsAll P C p) → ⊥
      not_kept [] number below first keeps = absurd (omega arith)
      not_kept (p ∷ points) zero below first keeps = let found = first p refl in found.2.fails (keeps p refl found.0)
      not_kept (p ∷ points) (suc number) below first keeps =
          not_kept points number (omega arith) first keeps
