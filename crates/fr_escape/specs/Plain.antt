-- What a text becomes on a terminal.
use Rattle.std.specs.Prelude.{◌≡◌, ℕ, Bool, false, ◌||◌, List, [], ◌∷◌, ◌==◌, if◌then◌else◌, chars, flat_map}
use Rattle.std.specs.Char.{is_control}
use Rattle.std.specs.Char.Escape.{escape_default}
use Rattle.fr_escape.specs.Steering.{sets_direction}

-- the character is a control, sets the direction of reading, or separates lines or paragraphs
abbrev pub steers : ℕ → Bool
steers c = is_control c || sets_direction c || c == 0x2028 || c == 0x2029

-- what stands for a character: for one that steers, what Rust writes in a literal, as `\n` and `\u{1b}`; itself for any
-- other, a backslash too
abbrev pub plain_character : ℕ → List ℕ
plain_character c = if steers c then escape_default c else c ∷ []

-- the characters that stand for a text
unfoldable pub plain : List ℕ → List ℕ
plain text = flat_map plain_character (chars text)

-- a character that steers nothing
abbrev pub IsPlain : ℕ → Type 0
IsPlain c = steers c ≡ false
