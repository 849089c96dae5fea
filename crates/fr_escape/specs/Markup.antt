-- What HTML and XML share.
use Rattle.std.specs.Prelude.{◌≢◌, ℕ}

-- a character that ends no text between two tags, nor the value of an attribute in quotes: none of `<` (60), `>` (62),
-- `"` (34) and `'` (39)
abbrev pub IsHarmless : ℕ → Type 0
IsHarmless c = (c ≢ 60) × (c ≢ 62) × (c ≢ 34) × (c ≢ 39)
