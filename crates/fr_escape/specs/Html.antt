-- What a text becomes in a page of HTML.
use Rattle.std.specs.Prelude.{ℕ, List, [], ◌∷◌, ◌==◌, if◌then◌else◌, chars, codes, flat_map}

-- what stands for a character: an entity for `&` (38), `<` (60), `>` (62), `"` (34) and `'` (39), itself for any other
abbrev pub html_character : ℕ → List ℕ
html_character c =
    if c == 38 then codes "&amp;" else if c == 60 then codes "&lt;" else if c == 62 then codes "&gt;"
    else if c == 34 then codes "&quot;" else if c == 39 then codes "&#39;" else c ∷ []

-- the characters that stand for a text
unfoldable pub html : List ℕ → List ℕ
html text = flat_map html_character (chars text)
