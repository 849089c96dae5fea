-- How many workers there can be.
use Rattle.std.specs.Prelude.{◌≡◌, ◌<◌, ◌⊎◌, ℕ}

-- there can't be so many workers
abbrev pub IsNoCrew : ℕ → Type 0
IsNoCrew workers = (workers ≡ 0) ⊎ (64 < workers)
