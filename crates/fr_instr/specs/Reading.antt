-- The token at the front of a text, as a function: for private clauses.
use Rattle.std.specs.Prelude.{ℕ, ◌+◌, ◌==◌, ◌&&◌, if◌then◌else◌, List, [], ◌∷◌, length, take, drop, slice_index, Bool, Option, Some, None, option_map}
use Rattle.std.specs.Char.{is_ascii_digit}
use Rattle.fr_instr.specs.Tokens.{Tok, word, number, sign, is_letter, is_word_byte, first}
use Rattle.fr_instr.specs.declared.token.Sign.{Sign}
use Rattle.fr_instr.specs.declared.token.Sign.TheVariants.{Open, Close, Comma, Assign, Plus, Minus, Times, Less, LessEqual, Greater, GreaterEqual, Equal, NotEqual, Question}

-- the longest front of bytes that pass, and what follows it
abbrev pub front : (ℕ → Bool) → List ℕ → List ℕ
front p [] = []
front p (b ∷ bs) = if p b then b ∷ front p bs else []

-- what follows that front
abbrev pub after : (ℕ → Bool) → List ℕ → List ℕ
after p [] = []
after p (b ∷ bs) = if p b then after p bs else b ∷ bs

-- the sign that begins with these two bytes, and its length
abbrev pub sign_at : ℕ → ℕ → Option (Sign × ℕ)
sign_at a b =
    if a == 60 then (if b == 61 then Some (LessEqual, 2) else Some (Less, 1))
    else if a == 62 then (if b == 61 then Some (GreaterEqual, 2) else Some (Greater, 1))
    else if a == 61 then (if b == 61 then Some (Equal, 2) else Some (Assign, 1))
    else if a == 33 then (if b == 61 then Some (NotEqual, 2) else None)
    else if a == 40 then Some (Open, 1)
    else if a == 41 then Some (Close, 1)
    else if a == 44 then Some (Comma, 1)
    else if a == 43 then Some (Plus, 1)
    else if a == 45 then Some (Minus, 1)
    else if a == 42 then Some (Times, 1)
    else if a == 63 then Some (Question, 1)
    else None

-- the token with which the text begins, with no space before it, and what follows it
unfoldable pub token_at : List ℕ → Option (Tok × List ℕ)
token_at text =
    if is_letter (first text) then Some (word (front is_word_byte text), after is_word_byte text)
    else if is_ascii_digit (first text) then Some (number (front is_ascii_digit text), after is_ascii_digit text)
    else if first text == 45 && is_ascii_digit (slice_index text 1)
    then (let n = length (front is_ascii_digit (drop 1 text)) + 1 in Some (number (take n text), drop n text))
    else option_map (λ p. (sign p.0, drop p.1 text)) (sign_at (first text) (slice_index text 1))
