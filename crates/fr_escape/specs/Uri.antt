-- What a path becomes in a URI.
use Rattle.std.specs.Prelude.{◌≡◌, ℕ, ◌/◌, ◌%◌, ◌⊎◌, Bool, true, ◌||◌, List, [], ◌∷◌, if◌then◌else◌, ◌==◌, codes, flat_map}
use Rattle.std.specs.List.{list_any}
use Rattle.std.specs.Char.{is_ascii_alphanumeric}
use Rattle.std.specs.Fmt.{digit_glyph}

-- the byte is written as itself: a letter, a digit, or one of these marks, which are those that RFC 3986 lets a path
-- have, without `:`
abbrev pub stays : ℕ → Bool
stays b = is_ascii_alphanumeric b || list_any (λ mark. mark == b) (codes "-._~/!$&'()*+,;=@")

-- what stands for a byte: itself, or `%` (37) and two digits in upper case
abbrev pub uri_byte : ℕ → List ℕ
uri_byte b = if stays b then b ∷ [] else 37 ∷ digit_glyph true (b / 16 % 16) ∷ digit_glyph true (b % 16) ∷ []

-- the bytes that stand for a path
unfoldable pub uri : List ℕ → List ℕ
uri path = flat_map uri_byte path

-- a byte that stays as it is, or the `%` of an escape
abbrev pub IsUriByte : ℕ → Type 0
IsUriByte b = (stays b ≡ true) ⊎ (b ≡ 37)
