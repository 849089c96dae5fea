-- The numbers that a pass has drawn, in order, each with what has become of it; and how to count among them.
--
--   sum_of f drawn              f of each drawn number, added up
--   finishes, marks, failures, skips    1 for an outcome of that kind, 0 for each other:
--                               finished is passed, failed or skipped; with a mark is marked or failed
--   draw, finish                1 for each number that was drawn; 1 for each that is finished
--   draw_of x, finish_of x, mark_of x, failure_of x, skip_of x
--                               the same of the number x alone: 1 where it is x and its outcome is of that kind
--   entry n o                   the number n with the outcome o
--   outcome_of n drawn          what has become of n, or None where it was not drawn
--   with_outcome n o drawn      the same numbers, where n has become o
--   IsAbove n drawn             n is above each number that was drawn
use Rattle.std.specs.Prelude.{ℕ, ◌+◌, ◌*◌, ◌<◌, ◌==◌, List, [], ◌∷◌, Option, Some, None, All, if◌then◌else◌}
use Rattle.fr_board.specs.declared.progress.Outcome.{Outcome}
use Rattle.fr_board.specs.declared.progress.Outcome.TheVariants.{Open, Marked, Passed, Failed, Skipped}
use Rattle.fr_board.specs.declared.progress.Drawn.{Drawn}

-- f of each drawn number, added up
abbrev pub sum_of : (Drawn → ℕ) → List Drawn → ℕ
sum_of f [] = 0
sum_of f (d ∷ ds) = f d + sum_of f ds

-- 1 where the number is finished
abbrev pub finishes : Outcome → ℕ
finishes Open = 0
finishes Marked = 0
finishes Passed = 1
finishes Failed = 1
finishes Skipped = 1

-- 1 where its failure has lowered the word least
abbrev pub marks : Outcome → ℕ
marks Open = 0
marks Marked = 1
marks Passed = 0
marks Failed = 1
marks Skipped = 0

-- 1 where it failed and is finished
abbrev pub failures : Outcome → ℕ
failures Open = 0
failures Marked = 0
failures Passed = 0
failures Failed = 1
failures Skipped = 0

-- 1 where it was skipped
abbrev pub skips : Outcome → ℕ
skips Open = 0
skips Marked = 0
skips Passed = 0
skips Failed = 0
skips Skipped = 1

-- 1 for each number
abbrev pub draw : Drawn → ℕ
draw d = 1

-- 1 for each finished number
abbrev pub finish : Drawn → ℕ
finish d = finishes d.outcome

-- 1 where the number is x
abbrev pub draw_of : ℕ → Drawn → ℕ
draw_of x d = if d.number == x then 1 else 0

-- 1 where the number is x and finished
abbrev pub finish_of : ℕ → Drawn → ℕ
finish_of x d = draw_of x d * finishes d.outcome

-- 1 where the number is x, marked or failed
abbrev pub mark_of : ℕ → Drawn → ℕ
mark_of x d = draw_of x d * marks d.outcome

-- 1 where the number is x and failed
abbrev pub failure_of : ℕ → Drawn → ℕ
failure_of x d = draw_of x d * failures d.outcome

-- 1 where the number is x and skipped
abbrev pub skip_of : ℕ → Drawn → ℕ
skip_of x d = draw_of x d * skips d.outcome

-- a number with its outcome
abbrev pub entry : ℕ → Outcome → Drawn
entry n o = record { number = n; outcome = o }

-- what has become of the number n
abbrev pub outcome_of : ℕ → List Drawn → Option Outcome
outcome_of n [] = None
outcome_of n (d ∷ ds) = if d.number == n then Some d.outcome else outcome_of n ds

-- the same numbers, where n has become o
abbrev pub with_outcome : ℕ → Outcome → List Drawn → List Drawn
with_outcome n o [] = []
with_outcome n o (d ∷ ds) = if d.number == n then entry n o ∷ ds else d ∷ with_outcome n o ds

-- n is above each number that was drawn
abbrev pub IsAbove : ℕ → List Drawn → Type 0
IsAbove n ds = All (λ d. d.number < n) ds
