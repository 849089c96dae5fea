-- What a text in JSON becomes, so that nothing in it steers what shows it.
use Rattle.std.specs.Prelude.{◌≤◌, ◌⊎◌, ℕ, ◌&&◌, ◌/◌, ◌%◌, ◌+◌, List, ◌∷◌, [], chars, flat_map, if◌then◌else◌, nat_lt}
use Rattle.fr_escape.specs.Plain.{steers, IsPlain}

-- the digits of base 16
abbrev pub hex_digit : ℕ → ℕ
hex_digit n = if nat_lt (n % 16) 10 then 48 + n % 16 else 87 + n % 16

-- a reverse solidus, `u` and four digits
abbrev pub unicode_escape : ℕ → List ℕ
unicode_escape c = 92 ∷ 117 ∷ hex_digit (c / 4096) ∷ hex_digit (c / 256) ∷ hex_digit (c / 16) ∷ hex_digit c ∷ []

-- what stands for a character: its escape where it steers and isn't ASCII, or is DEL (127); itself for any other. JSON itself has an
-- escape for each ASCII control in a string, and line ends between its words
abbrev pub json_character : ℕ → List ℕ
json_character c = if nat_lt 126 c && steers c then unicode_escape c else c ∷ []

-- the characters that stand for a text
unfoldable pub as_json : List ℕ → List ℕ
as_json text = flat_map json_character (chars text)

-- a character of ASCII below DEL, or one that steers nothing
abbrev pub IsSteady : ℕ → Type 0
IsSteady c = (c ≤ 126) ⊎ IsPlain c
