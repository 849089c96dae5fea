-- What is promised of a line that says where a fault is.
--
-- | word        | meaning                                                                  |
-- |-------------|--------------------------------------------------------------------------|
-- | place_line  | the line for a text: two blanks, and the text so that it steers nothing  |
-- | IsPlaceLine | a line for some text                                                     |
use Rattle.std.specs.Prelude.{◌≡◌, ◌++◌, ℕ, List, codes, encode_utf8_all}
use Rattle.fr_escape.specs.Plain.{plain}

-- two blanks, and then the text with what steers a terminal written as in a literal
abbrev pub place_line : List ℕ → List ℕ
place_line text = codes "  " ++ encode_utf8_all (plain text)

-- a line for some text
abbrev pub IsPlaceLine : List ℕ → Type 0
IsPlaceLine line = (text : List ℕ) × (line ≡ place_line text)
