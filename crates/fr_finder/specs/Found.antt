-- How many rounds can be asked for.
use Rattle.std.specs.Prelude.{◌≡◌, ◌<◌, ◌⊎◌, ℕ}

-- there can't be so many rounds: it is 1 to 64 of them
abbrev pub IsNoRounds : ℕ → Type 0
IsNoRounds rounds = (rounds ≡ 0) ⊎ (64 < rounds)
