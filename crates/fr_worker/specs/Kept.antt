-- The jobs of a board for an application: job n is the point with the number n, and it is kept where the point keeps every part.
--
-- | word                  | meaning                                                                                      |
-- |-----------------------|----------------------------------------------------------------------------------------------|
-- | KeepsAt               | the point with this number keeps every part                                                  |
-- | IsFor                 | the board has a job for each point                                                           |
-- | IsNewFor              | a pass of the board that has done nothing                                                    |
-- | IsWorked, IsWorkedBy  | a worker's pass after its turn; those of so many workers, as one                             |
-- | IsLeastFailing        | the least number of a point that doesn't keep every part, or None                            |
use Rattle.std.specs.Prelude.{◌≡◌, ℕ, Some, Option, length, slice_get}
use Rattle.fr_board.specs.Progress.{new_progress}
use Rattle.fr_board.specs.Values.{BoardValue, PassValue, IsOf}
use Rattle.fr_program.specs.declared.ids.Point.{Point}
use Rattle.fr_program.specs.Program.{Program}
use Rattle.fr_program.specs.Points.{points_of}
use Rattle.fr_ends.specs.Certificate.{Certificate}
use Rattle.fr_judge.specs.Verdict.{KeepsAll}
use Rattle.fr_worker.specs.Worked.{IsGathered, IsLeast}

-- the point with this number keeps every part
abbrev pub KeepsAt : Program → Certificate → ℕ → Type 0
KeepsAt P C number = (p : Point) → slice_get (points_of P) number ≡ Some p → KeepsAll P C p

-- the board has a job for each point
abbrev pub IsFor : Program → BoardValue → Type 0
IsFor P b = b.jobs ≡ length (points_of P)

-- one worker's pass after its turn, of weight 1 and with a dry mark: every point marked passed keeps all its parts, every point
-- marked failed doesn't, and no drawn point is left open
abbrev pub IsWorked : BoardValue → Program → Certificate → PassValue → Type 0
IsWorked b P C p = IsGathered b (KeepsAt P C) 1 p

-- the least number of a point that doesn't keep every part, or None where all do
abbrev pub IsLeastFailing : Program → Certificate → Option ℕ → Type 0
IsLeastFailing P C least = IsLeast (KeepsAt P C) (length (points_of P)) least

-- a pass of that board that has done nothing
abbrev pub IsNewFor : BoardValue → PassValue → Type 0
IsNewFor b p = IsOf b p × (p.progress ≡ new_progress b.jobs 1)

-- the passes of so many workers after their turns, as one
abbrev pub IsWorkedBy : BoardValue → Program → Certificate → ℕ → PassValue → Type 0
IsWorkedBy b P C count p = IsGathered b (KeepsAt P C) count p
