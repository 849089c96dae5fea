-- The tokens of a line, and how a text spells them.
--
-- | word                              | meaning                                                       |
-- |-----------------------------------|---------------------------------------------------------------|
-- | Tok                               | a word, a number or a sign                                    |
-- | sign_bytes, tok_bytes             | the bytes of a sign, of a token                               |
-- | is_space, is_letter, is_word_byte | kinds of byte: a space, the first of a word, any of a word    |
-- | first                             | the byte at the front of a text                               |
-- | IsDigits, IsTok                   | one digit or more; bytes that this token can have             |
-- | sign_goes_on, goes_on             | a byte right behind it would belong to the sign, to the token |
-- | IsBlank                           | the text is nothing but spaces                                |
-- | Begins, Spells                    | a text begins with a token; a text's tokens are these         |
use Rattle.std.specs.Prelude.{◌≡◌, ◌⊎◌, ℕ, ◌||◌, ◌==◌, List, [], ◌∷◌, ◌++◌, Bool, true, false, codes, slice_index}
use Rattle.std.specs.Char.{is_ascii_digit, is_ascii_alphabetic}
use Rattle.std.specs.List.{list_all}
use Rattle.fr_instr.specs.declared.token.Sign.{Sign}
use Rattle.fr_instr.specs.declared.token.Sign.TheVariants.{Open, Close, Comma, Assign, Plus, Minus, Times, Less, LessEqual, Greater, GreaterEqual, Equal, NotEqual, Question}

-- a word, a number or a sign; a word and a number are their bytes
pub data Tok : Type 0 where
  word : List ℕ → Tok
  number : List ℕ → Tok
  sign : Sign → Tok

-- the bytes of a sign
abbrev pub sign_bytes : Sign → List ℕ
sign_bytes Open = codes "("
sign_bytes Close = codes ")"
sign_bytes Comma = codes ","
sign_bytes Assign = codes "="
sign_bytes Plus = codes "+"
sign_bytes Minus = codes "-"
sign_bytes Times = codes "*"
sign_bytes Less = codes "<"
sign_bytes LessEqual = codes "<="
sign_bytes Greater = codes ">"
sign_bytes GreaterEqual = codes ">="
sign_bytes Equal = codes "=="
sign_bytes NotEqual = codes "!="
sign_bytes Question = codes "?"

-- a space, which is all that may be between tokens
abbrev pub is_space : ℕ → Bool
is_space b = b == 32

-- an ASCII letter or an underscore
abbrev pub is_letter : ℕ → Bool
is_letter b = is_ascii_alphabetic b || b == 95

-- an ASCII letter, an underscore or a digit
abbrev pub is_word_byte : ℕ → Bool
is_word_byte b = is_letter b || is_ascii_digit b

-- the byte at the front, or 0 where the text is over
abbrev pub first : List ℕ → ℕ
first text = slice_index text 0

-- one digit or more
abbrev pub IsDigits : List ℕ → Type 0
IsDigits ds = (is_ascii_digit (first ds) ≡ true) × (list_all is_ascii_digit ds ≡ true)

-- the bytes are a token's
abbrev pub IsTok : Tok → Type 0
IsTok (word w) = (is_letter (first w) ≡ true) × (list_all is_word_byte w ≡ true)
IsTok (number d) = IsDigits d ⊎ ((ds : List ℕ) × (d ≡ 45 ∷ ds) × IsDigits ds)
IsTok (sign s) = Unit {0}

-- the bytes of a token
abbrev pub tok_bytes : Tok → List ℕ
tok_bytes (word w) = w
tok_bytes (number d) = d
tok_bytes (sign s) = sign_bytes s

-- a sign that this byte would make longer
abbrev pub sign_goes_on : Sign → ℕ → Bool
sign_goes_on Assign b = b == 61
sign_goes_on Less b = b == 61
sign_goes_on Greater b = b == 61
sign_goes_on Minus b = is_ascii_digit b
sign_goes_on _ b = false

-- This byte, right behind the token, would belong to it: a token is the longest that fits.
abbrev pub goes_on : Tok → ℕ → Bool
goes_on (word w) b = is_word_byte b
goes_on (number d) b = is_ascii_digit b
goes_on (sign s) b = sign_goes_on s b

-- nothing but spaces
abbrev pub IsBlank : List ℕ → Type 0
IsBlank text = list_all is_space text ≡ true

-- the text begins with the token, behind spaces, and goes on with the rest
abbrev pub Begins : List ℕ → Tok → List ℕ → Type 0
Begins text t rest =
    (gap : List ℕ) × IsBlank gap × (text ≡ gap ++ (tok_bytes t ++ rest)) × IsTok t × (goes_on t (first rest) ≡ false)

-- the text spells the tokens
abbrev pub Spells : List ℕ → List Tok → Type 0
Spells text [] = IsBlank text
Spells text (t ∷ ts) = (rest : List ℕ) × Begins text t rest × Spells rest ts
