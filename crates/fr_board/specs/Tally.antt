-- What a new board is, and what the answer of a finished one says.
--
--   IsSeatCount seats           a board can have so many passes
--   IsBoardSize jobs seats      a board can be so large
--   FaultStands fault jobs seats    that fault is one of such a board
--   IsNewBoard jobs seats b passes    b is new and these are its passes, which have done nothing
--   TallyBy jobs least sum      each number below jobs was drawn once and is finished, no other was drawn, least is the least that
--                               failed, and only numbers above it were skipped; sum f adds up f of all drawn numbers
--   IsTally, IsTallyOf          the same of all these passes; of this pass alone
--   DrewEach jobs p             the pass has drawn each number below jobs once, and no other
--   LooksFrom least passes      no pass has seen a number below least
--   IsSettled jobs least p      the passes, p among them, have that tally, and looks from its least on
--   Standing jobs least passes  what is true of all passes also where numbers are left
--   IsUnsettled jobs done p     of the passes, p among them, so many numbers are finished
--   EndedWith .. id p           the rule held at the end, where the seat id had the progress p
--   AnswersBy jobs done least result    the answer of a board whose words done and least end so
use Rattle.std.specs.Prelude.{◌≡◌, ℕ, ◌<◌, ◌≤◌, ◌^◌, ◌⊎◌, List, length, Option, MatchOption, Result, MatchResult, All, Contains, unwrap_or}
use mathlib.Core.Option.{some}
use lib.ListN.{get_elem?}
use Rattle.fr_board.specs.declared.board.BoardFault.{BoardFault}
use Rattle.fr_board.specs.declared.board.BoardFault.TheVariants.{Memory, Seats, Jobs}
use Rattle.fr_board.specs.declared.board.Tally.{Tally}
use Rattle.fr_board.specs.declared.board.Unfinished.{Unfinished}
use Rattle.fr_board.specs.declared.progress.Drawn.{Drawn}
use Rattle.fr_board.specs.declared.progress.Progress.{Progress}
use Rattle.fr_board.specs.Drawn.{sum_of, draw_of, finish, finish_of, mark_of, failure_of, skip_of}
use Rattle.fr_board.specs.Progress.{total, in_pass, new_progress}
use Rattle.fr_board.specs.Rule.{BoardRule}
use Rattle.fr_board.specs.Values.{BoardValue, PassValue}

-- 1 to 64 seats
abbrev pub IsSeatCount : ℕ → Type 0
IsSeatCount seats = (0 < seats) × (seats ≤ 64)

-- the sizes that a board can have
abbrev pub IsBoardSize : ℕ → ℕ → Type 0
IsBoardSize jobs seats = IsSeatCount seats × (jobs ≤ 2 ^ 32)

-- when each fault is answered: the number of seats is tested first, then the number of jobs, and only then memory is asked for
abbrev pub FaultStands : BoardFault → ℕ → ℕ → Type 0
FaultStands Memory jobs seats = IsBoardSize jobs seats
FaultStands Seats jobs seats = (seats ≡ 0) ⊎ (64 < seats)
FaultStands Jobs jobs seats = IsSeatCount seats × (2 ^ 32 < jobs)

-- a board and the passes that it begins with
pub record IsNewBoard (jobs seats : ℕ) (b : BoardValue) (passes : List PassValue) : Type 0 where
  pub jobs_are : b.jobs ≡ jobs
  pub seats_are : b.seats ≡ seats
  pub count : length passes ≡ seats
  pub each : All (λ p. (p.table ≡ b.table) × (p.progress ≡ new_progress jobs 1)) passes

-- all numbers are drawn once and finished; sum f adds up f of all drawn numbers
pub record TallyBy (jobs : ℕ) (least : Option ℕ) (sum : (Drawn → ℕ) → ℕ) : Type 0 where
  pub each_once : (x : ℕ) → x < jobs → sum (draw_of x) ≡ 1
  pub each_finished : (x : ℕ) → x < jobs → sum (finish_of x) ≡ 1
  pub no_other : (x : ℕ) → jobs ≤ x → sum (draw_of x) ≡ 0
  -- least is the least that failed, and None where none did
  pub least_is : MatchOption least ((x : ℕ) → sum (failure_of x) ≡ 0) (λ n. (sum (failure_of n) ≡ 1) × ((x : ℕ) → x < n → sum (failure_of x) ≡ 0))
  -- only numbers above least were skipped, and none where none failed
  pub skipped : MatchOption least ((x : ℕ) → sum (skip_of x) ≡ 0) (λ n. (x : ℕ) → x ≤ n → sum (skip_of x) ≡ 0)

-- it is the tally of these passes
abbrev pub IsTally : ℕ → Option ℕ → List Progress → Type 0
IsTally jobs least passes = TallyBy jobs least (λ f. total (in_pass f) passes)

-- it is the tally of this pass alone
abbrev pub IsTallyOf : ℕ → Option ℕ → Progress → Type 0
IsTallyOf jobs least p = TallyBy jobs least (λ f. sum_of f p.drawn)

-- each number below jobs was drawn once, and no other
pub record DrewEach (jobs : ℕ) (p : Progress) : Type 0 where
  pub count : length p.drawn ≡ jobs
  pub each_once : (x : ℕ) → x < jobs → sum_of (draw_of x) p.drawn ≡ 1
  pub no_other : (x : ℕ) → jobs ≤ x → sum_of (draw_of x) p.drawn ≡ 0

-- no pass has seen a number below least; one that went into another is no more asked
abbrev pub LooksFrom : ℕ → List Progress → Type 0
LooksFrom least passes = All (λ p. 0 < p.weight → least ≤ p.look) passes

-- the passes, p among them, have that tally
abbrev pub IsSettled : ℕ → Option ℕ → Progress → Type 0
IsSettled jobs least p = (passes : List Progress) × Contains passes p × IsTally jobs least passes × LooksFrom (unwrap_or least jobs) passes

-- no number was drawn twice, least is the least that was marked or failed, or jobs, and no skip and no look is below it
pub record Standing (jobs least : ℕ) (passes : List Progress) : Type 0 where
  pub at_most_once : (x : ℕ) → total (in_pass (draw_of x)) passes ≤ 1
  pub no_other : (x : ℕ) → jobs ≤ x → total (in_pass (draw_of x)) passes ≡ 0
  pub least_under : (x : ℕ) → 0 < total (in_pass (mark_of x)) passes → least ≤ x
  pub least_marked : least < jobs → 0 < total (in_pass (mark_of least)) passes
  pub least_within : least ≤ jobs
  pub skipped : (x : ℕ) → x ≤ least → total (in_pass (skip_of x)) passes ≡ 0
  pub looks : LooksFrom least passes

-- of the passes, p among them, so many numbers are finished
abbrev pub IsUnsettled : ℕ → ℕ → Progress → Type 0
IsUnsettled jobs done p = (passes : List Progress) × Contains passes p × (done ≡ total (in_pass finish) passes) × (least : ℕ) × Standing jobs least passes

-- the rule held at the end, where the seat id had the progress p
abbrev pub EndedWith : ℕ → ℕ → ℕ → ℕ → ℕ → Progress → Type 0
EndedWith jobs seats done least id p = (next : ℕ) × (passes : List Progress) × BoardRule jobs seats next done least passes × (get_elem? passes id ≡ some p)

-- Ok where done has come up to jobs, with least where that is a job's number
abbrev pub AnswersBy : ℕ → ℕ → ℕ → Result Tally Unfinished → Type 0
AnswersBy jobs done least result = MatchResult result
    (λ t. (jobs ≤ done) × (t.jobs ≡ jobs) × MatchOption t.least (jobs ≤ least) (λ n. (n ≡ least) × (least < jobs)))
    (λ u. (done < jobs) × (u.done ≡ done))
