-- The one text in which a list of tokens is written.
use Rattle.std.specs.Prelude.{ℕ, List, [], ◌∷◌, ◌++◌, Bool, true, false, if◌then◌else◌, ◌||◌}
use Rattle.fr_instr.specs.Tokens.{Tok, sign, tok_bytes}
use Rattle.fr_instr.specs.declared.token.Sign.TheVariants.{Open, Close, Comma}

-- an opening bracket: no space is behind it
abbrev pub is_open : Tok → Bool
is_open (sign Open) = true
is_open _ = false

-- no space is before it
abbrev pub leans : Tok → Bool
leans (sign Open) = true
leans (sign Close) = true
leans (sign Comma) = true
leans _ = false

-- the space between two tokens
abbrev pub gap : Tok → Tok → List ℕ
gap t u = if is_open t || leans u then [] else 32 ∷ []

-- the text that is written for the tokens
abbrev pub written : List Tok → List ℕ
written [] = []
written (t ∷ []) = tok_bytes t
written (t ∷ u ∷ ts) = tok_bytes t ++ (gap t u ++ written (u ∷ ts))
