-- What a worker hands back: a pass in which what became of each number is right. `Keeps n` says that job n is kept; it is a
-- variable here, and the application's parts come in only in `Kept`.
--
-- | word            | meaning                                                                                            |
-- |-----------------|----------------------------------------------------------------------------------------------------|
-- | IsRight         | what became of a number is right: kept where it passed, not kept where it failed, and none is open  |
-- | AreRight        | so is what became of each of these numbers                                                         |
-- | Settles         | after a look a number of the pass has got an outcome that is right                                 |
-- | IsGathered      | a pass of that board, joined from n first ones, that found nothing left and in which all is right  |
-- | IsLeast         | the least number below the number of jobs that isn't kept, or None where all are                   |
use Rattle.std.specs.Prelude.{◌≡◌, ℕ, ◌<◌, List, Option, MatchOption, All}
use Rattle.fr_board.specs.declared.progress.Outcome.{Outcome}
use Rattle.fr_board.specs.declared.progress.Outcome.TheVariants.{Open, Marked, Passed, Failed, Skipped}
use Rattle.fr_board.specs.declared.progress.Drawn.{Drawn}
use Rattle.fr_board.specs.declared.progress.Progress.{Progress}
use Rattle.fr_board.specs.Progress.{after_look, after_outcome}
use Rattle.fr_board.specs.Values.{BoardValue, PassValue, IsOf}

-- the outcome is right, where `keeps` says that the job is kept; nothing is open, and of a skipped one nothing is said
abbrev pub IsRight : Type 0 → Outcome → Type 0
IsRight keeps Open = ⊥
IsRight keeps Marked = ⊥
IsRight keeps Passed = keeps
IsRight keeps Failed = keeps → ⊥
IsRight keeps Skipped = Unit {0}

-- each number has an outcome that is right
abbrev pub AreRight : (ℕ → Type 0) → List Drawn → Type 0
AreRight Keeps ds = All (λ d. IsRight (Keeps d.number) d.outcome) ds

-- after a look the number n has become something that is right
abbrev pub Settles : (ℕ → Type 0) → Progress → ℕ → Progress → Type 0
Settles Keeps p n q = (o : Outcome) × (look : ℕ) × IsRight (Keeps n) o × (q ≡ after_look (after_outcome p n o) look)

-- a pass of that board, of so many first ones, that found nothing left and in which all is right
pub record IsGathered (b : BoardValue) (Keeps : ℕ → Type 0) (count : ℕ) (p : PassValue) : Type 0 where
  pub own : IsOf b p
  pub weight : p.progress.weight ≡ count
  pub dry : 0 < p.progress.dry_marks
  pub right : AreRight Keeps p.progress.drawn

-- the least number that isn't kept, or None where all numbers below jobs are
abbrev pub IsLeast : (ℕ → Type 0) → ℕ → Option ℕ → Type 0
IsLeast Keeps jobs least = MatchOption least ((k : ℕ) → k < jobs → Keeps k) (λ n. (n < jobs) × (Keeps n → ⊥) × ((k : ℕ) → k < n → Keeps k))
