-- How contracts see a board and a pass.
use Rattle.std.specs.Prelude.{◌≡◌, ℕ, ◌<◌, Some}
use Rattle.atomic_table.specs.Seated.{TableId}
use Rattle.fr_board.specs.declared.progress.Outcome.{Outcome}
use Rattle.fr_board.specs.declared.progress.Outcome.TheVariants.{Open, Marked, Passed, Failed, Skipped}
use Rattle.fr_board.specs.declared.progress.Progress.{Progress}
use Rattle.fr_board.specs.Drawn.{outcome_of}

-- a board: which one it is, how many jobs it has, and how many passes it began with
pub record BoardValue : Type 0 where
  pub table : TableId
  pub jobs : ℕ
  pub seats : ℕ

-- a pass: which board it is of, and what it knows
pub record PassValue : Type 0 where
  pub table : TableId
  pub progress : Progress

-- the pass is of that board
abbrev pub IsOf : BoardValue → PassValue → Type 0
IsOf b p = (p.table ≡ b.table) × (p.progress.jobs ≡ b.jobs)

-- the count step may turn the number n into o: only an open number passes, only a marked one fails, and only an open one above the last look is skipped
abbrev pub MayBecome : Progress → ℕ → Outcome → Type 0
MayBecome p n Open = ⊥
MayBecome p n Marked = ⊥
MayBecome p n Passed = outcome_of n p.drawn ≡ Some Open
MayBecome p n Failed = outcome_of n p.drawn ≡ Some Marked
MayBecome p n Skipped = (outcome_of n p.drawn ≡ Some Open) × (p.look < n)
