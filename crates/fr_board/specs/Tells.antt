-- For private clauses: what each of the four steps tells its caller: of the step, the seat before it, the number found in the word, and the seat after it.
use Rattle.std.specs.Prelude.{◌≡◌, ℕ, ◌<◌, ◌≤◌}
use Rattle.atomic_table.specs.Table.{Me, Step}
use Rattle.fr_board.specs.declared.progress.Outcome.{Outcome}
use Rattle.fr_board.specs.declared.progress.Outcome.TheVariants.{Marked}
use Rattle.fr_board.specs.declared.progress.Progress.{Progress}
use Rattle.fr_board.specs.Drawn.{IsAbove, sum_of, mark_of}
use Rattle.fr_board.specs.Progress.{after_draw, after_dry_draw, after_outcome, after_look}

-- a draw: the number found is drawn if it is a job's, and otherwise the pass gets a dry mark
abbrev pub DrawTells : Step (Unit {0}) → Me (Unit {0}) Progress → ℕ → Me (Unit {0}) Progress → Type 0
DrawTells st m found m' = (m'.1 ≡ m.1) × (found < m.0.jobs → (m'.0 ≡ after_draw m.0 found) × IsAbove found m.0.drawn) × (m.0.jobs ≤ found → m'.0 ≡ after_dry_draw m.0)

-- a step on least: the step's operand is the number that is marked
abbrev pub LeastTells : Step (Unit {0}) → Me (Unit {0}) Progress → ℕ → Me (Unit {0}) Progress → Type 0
LeastTells st m found m' = (m'.1 ≡ m.1) × (m'.0 ≡ after_outcome m.0 st.first Marked)

-- a count: the number n has become o
abbrev pub CountTells : ℕ → Outcome → Step (Unit {0}) → Me (Unit {0}) Progress → ℕ → Me (Unit {0}) Progress → Type 0
CountTells n o st m found m' = (m'.1 ≡ m.1) × (m'.0 ≡ after_outcome m.0 n o)

-- a look: what was found is at most jobs, the look before, and each number of its own that was marked or failed
abbrev pub LookTells : Step (Unit {0}) → Me (Unit {0}) Progress → ℕ → Me (Unit {0}) Progress → Type 0
LookTells st m found m' = (m'.1 ≡ m.1) × (m'.0 ≡ after_look m.0 found) × (found ≤ m.0.jobs) × (found ≤ m.0.look) × ((x : ℕ) → 0 < sum_of (mark_of x) m.0.drawn → found ≤ x)
