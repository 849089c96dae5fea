-- What a text becomes in a file of XML.
use Rattle.std.specs.Prelude.{◌≡◌, ℕ, Bool, false, ◌||◌, List, [], ◌∷◌, ◌==◌, if◌then◌else◌, chars, codes, flat_map}
use Rattle.std.specs.Char.{is_control}
use Rattle.fr_escape.specs.Steering.{sets_direction}

-- XML 1.0 can't have the character, or it steers what shows the text
abbrev pub is_replaced : ℕ → Bool
is_replaced c = is_control c || sets_direction c || c == 0xFFFE || c == 0xFFFF

-- what stands for a character: an entity for `&` (38), `<` (60), `>` (62), `"` (34) and `'` (39), a number for a line
-- end (10) and a tab (9), U+FFFD for what is replaced, itself for any other
abbrev pub xml_character : ℕ → List ℕ
xml_character c =
    if c == 38 then codes "&amp;" else if c == 60 then codes "&lt;" else if c == 62 then codes "&gt;"
    else if c == 34 then codes "&quot;" else if c == 39 then codes "&apos;"
    else if c == 10 then codes "&#10;" else if c == 9 then codes "&#9;"
    else if is_replaced c then 0xFFFD ∷ [] else c ∷ []

-- the characters that stand for a text
unfoldable pub xml : List ℕ → List ℕ
xml text = flat_map xml_character (chars text)

-- a character that XML 1.0 can have, and that steers nothing
abbrev pub IsAllowed : ℕ → Type 0
IsAllowed c = is_replaced c ≡ false
