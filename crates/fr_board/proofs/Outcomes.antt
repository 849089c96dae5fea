-- What the counts on an outcome have to do with each other, and with the count of one number.
use Rattle.std.proofs.Common.{◌≡◌, ℕ, ◌+◌, ◌*◌, ◌≤◌, Bool, true, false, cond, refl, arith}
use Rattle.fr_board.specs.declared.progress.Drawn.{Drawn}
use Rattle.fr_board.specs.declared.progress.Outcome.{Outcome}
use Rattle.fr_board.specs.declared.progress.Outcome.TheVariants.{Open, Marked, Passed, Failed, Skipped}
use Rattle.fr_board.specs.Drawn.{finishes, marks, failures, skips}

-- 1 where it is not finished
abbrev pub pending : Outcome → ℕ
pending Open = 1
pending Marked = 1
pending Passed = 0
pending Failed = 0
pending Skipped = 0

abbrev pub pending_draw : Drawn → ℕ
pending_draw d = pending d.outcome

pub finishes-pending : (o : Outcome) → finishes o + pending o ≡ 1
finishes-pending Open = refl
finishes-pending Marked = refl
finishes-pending Passed = refl
finishes-pending Failed = refl
finishes-pending Skipped = refl

pub finishes-one : (o : Outcome) → finishes o ≤ 1
finishes-one Open = omega arith
finishes-one Marked = omega arith
finishes-one Passed = omega arith
finishes-one Failed = omega arith
finishes-one Skipped = omega arith

pub failures-one : (o : Outcome) → failures o ≤ 1
failures-one Open = omega arith
failures-one Marked = omega arith
failures-one Passed = omega arith
failures-one Failed = omega arith
failures-one Skipped = omega arith

pub skips-one : (o : Outcome) → skips o ≤ 1
skips-one Open = omega arith
skips-one Marked = omega arith
skips-one Passed = omega arith
skips-one Failed = omega arith
skips-one Skipped = omega arith

pub failures-marks : (o : Outcome) → failures o ≤ marks o
failures-marks Open = omega arith
failures-marks Marked = omega arith
failures-marks Passed = omega arith
failures-marks Failed = omega arith
failures-marks Skipped = omega arith

pub marks-failures : (o : Outcome) → marks o ≤ failures o + pending o
marks-failures Open = omega arith
marks-failures Marked = omega arith
marks-failures Passed = omega arith
marks-failures Failed = omega arith
marks-failures Skipped = omega arith

-- the same behind the test of a number
pub flag-add : (b : Bool) (m n : ℕ) → m + n ≡ 1 → cond b 1 0 * m + cond b 1 0 * n ≡ cond b 1 0
flag-add true m n e = omega arith
flag-add false m n e = omega arith

pub flag-le : (b : Bool) (m n : ℕ) → m ≤ n → cond b 1 0 * m ≤ cond b 1 0 * n
flag-le true m n e = omega arith
flag-le false m n e = omega arith

pub flag-one : (b : Bool) (m : ℕ) → m ≤ 1 → cond b 1 0 * m ≤ cond b 1 0
flag-one true m e = omega arith
flag-one false m e = omega arith

pub flag-below : (b : Bool) (m : ℕ) → cond b 1 0 * m ≤ m
flag-below true m = omega arith
flag-below false m = omega arith

pub flag-sum : (b : Bool) (m n k : ℕ) → m ≤ n + k → cond b 1 0 * m ≤ cond b 1 0 * n + k
flag-sum true m n k e = omega arith
flag-sum false m n k e = omega arith
