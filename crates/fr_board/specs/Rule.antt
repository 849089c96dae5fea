-- For private clauses: the rule of the board: what is true of its three words and of all passes between any two steps.
use Rattle.std.specs.Prelude.{◌≡◌, ℕ, ◌+◌, ◌<◌, ◌≤◌, ◌^◌, nat_lt, min, List, [], length, slice_index, if◌then◌else◌}
use mathlib.Core.Option.{some}
use lib.ListN.{get_elem?}
use Rattle.atomic_table.specs.Table.{State}
use Rattle.fr_board.specs.declared.progress.Progress.{Progress}
use Rattle.fr_board.specs.Drawn.{draw, draw_of, finish, mark_of, skip_of}
use Rattle.fr_board.specs.Progress.{total, in_pass, dry_marks_of, weight_of}

-- 1 for each x below n, and 0 for each other
abbrev pub once_below : ℕ → ℕ → ℕ
once_below x n = if nat_lt x n then 1 else 0

-- what the rule says of one pass; a pass that went into another has the weight 0
pub record PassRule (jobs least : ℕ) (p : Progress) : Type 0 where
  pub jobs_are : 0 < p.weight → p.jobs ≡ jobs
  pub dry_marks_within : p.dry_marks ≤ p.weight
  pub look_from : 0 < p.weight → least ≤ p.look
  pub nothing_left : p.weight ≡ 0 → p.drawn ≡ []

-- the rule, of the words next, done and least and of all passes
pub record BoardRule (jobs seats next done least : ℕ) (passes : List Progress) : Type 0 where
  pub small : jobs + seats < 2 ^ 63
  -- the numbers that were drawn are distinct, and are those below next and below jobs
  pub each_once : (x : ℕ) → total (in_pass (draw_of x)) passes ≡ once_below x (min next jobs)
  -- so many were drawn, and next is their count and all dry marks
  pub count : total (in_pass draw) passes ≡ min next jobs
  pub next_is : next ≡ total (in_pass draw) passes + total dry_marks_of passes
  pub weights : total weight_of passes ≡ seats
  -- done is how many are finished
  pub done_is : done ≡ total (in_pass finish) passes
  -- least is the least number that was marked or failed, or jobs where there is none
  pub least_under : (x : ℕ) → 0 < total (in_pass (mark_of x)) passes → least ≤ x
  pub least_marked : least < jobs → 0 < total (in_pass (mark_of least)) passes
  pub least_within : least ≤ jobs
  -- each skipped number is above least
  pub skipped_above : (x : ℕ) → 0 < total (in_pass (skip_of x)) passes → least < x
  pub each_pass : (id : ℕ) (p : Progress) → get_elem? passes id ≡ some p → PassRule jobs least p

-- a table of the three words next, done and least keeps the rule
abbrev pub KeepsRule : ℕ → ℕ → State (Unit {0}) Progress → Type 0
KeepsRule jobs seats s = (length s.words ≡ 3) × BoardRule jobs seats (slice_index s.words 0) (slice_index s.words 1) (slice_index s.words 2) s.views
