-- What a line of a trace says, in its own words: nothing of the application is looked at.
--
-- | word                          | meaning                                                              |
-- |-------------------------------|----------------------------------------------------------------------|
-- | Said                          | what a line says                                                     |
-- | unrecorded                    | the token `?`, which is also taken where a result isn't there         |
-- | returned                      | what is said after the word `return`                                 |
-- | alone                         | what is said, where no token follows                                 |
-- | entered, written              | what is said after the words `enter` and `set`                       |
-- | event_named, event_by         | what is said after the actor's name                                  |
-- | said_after                    | what is said after the first word of a line                          |
-- | said_by                       | what the tokens of a line say, if they say something                 |
-- | begins_comment                | the first byte that isn't a space is `#`                             |
use Rattle.std.specs.Prelude.{◌==◌, ℕ, List, [], ◌∷◌, Bool, false, if◌then◌else◌, Option, Some, None, option_and_then, codes}
use Rattle.std.specs.Str.{bytes_eq}
use Rattle.fr_instr.specs.Tokens.{Tok, sign}
use Rattle.fr_instr.specs.ShapeReading.{take_word, take_number, head_at}
use Rattle.fr_instr.specs.declared.token.Sign.TheVariants.{Question}

-- what a line says: the words are names, and what isn't looked at yet is still tokens
pub data Said : Type 0 where
  -- nothing
  nothing : Said
  -- the calls that these tokens name aren't recorded
  unseen : List Tok → Said
  -- events are missing here
  lost : Said
  -- the actor enters the call of this name, and these tokens follow the opening bracket
  enter : List ℕ → List ℕ → List Tok → Said
  -- the actor's call returns this result and this value
  returns : List ℕ → Tok → Tok → Said
  -- the actor has set this variable to this number
  sets : List ℕ → List ℕ → List ℕ → Said
  -- the actor's handler begins, ends
  begins : List ℕ → Said
  ends : List ℕ → Said

-- the second step, if the first one gave something
infixl 10 ◌>>=◌
abbrev ◌>>=◌ : {A B : Type 0} → Option A → (A → Option B) → Option B
o >>= f = option_and_then f o

-- `?`
abbrev pub unrecorded : Tok
unrecorded = sign Question

-- after `return`: a result and a value, a result alone, or neither
abbrev pub returned : List ℕ → List Tok → Option Said
returned a [] = Some (returns a unrecorded unrecorded)
returned a (t ∷ []) = Some (returns a t unrecorded)
returned a (t ∷ u ∷ []) = Some (returns a t u)
returned a (t ∷ u ∷ v ∷ ts) = None

-- what is said, where no token follows
abbrev pub alone : Said → List Tok → Option Said
alone said [] = Some said
alone said (t ∷ ts) = None

-- after `enter`: the call's name and an opening bracket
unfoldable pub entered : List ℕ → List Tok → Option Said
entered a ts = do
  head ← head_at ts
  Some (enter a head.0 head.1)

-- after `set`: a word and a number
unfoldable pub written : List ℕ → List Tok → Option Said
written a ts = do
  x ← take_word ts
  d ← take_number x.1
  alone (sets a x.0 d.0) d.1

-- after the actor's name and the word there, which says what it does
unfoldable pub event_named : List ℕ → List ℕ → List Tok → Option Said
event_named a k ts =
    if bytes_eq k (codes "enter") then entered a ts
    else if bytes_eq k (codes "return") then returned a ts
    else if bytes_eq k (codes "set") then written a ts
    else if bytes_eq k (codes "begin") then alone (begins a) ts
    else if bytes_eq k (codes "end") then alone (ends a) ts
    else None

-- after the actor's name
unfoldable pub event_by : List ℕ → List Tok → Option Said
event_by a ts = do
  k ← take_word ts
  event_named a k.0 k.1

-- after the first word of a line
unfoldable pub said_after : List ℕ → List Tok → Option Said
said_after w [] = if bytes_eq w (codes "unseen") then Some (unseen []) else if bytes_eq w (codes "lost") then Some lost else None
said_after w (t ∷ ts) = if bytes_eq w (codes "unseen") then Some (unseen (t ∷ ts)) else event_by w (t ∷ ts)

-- the whole line
unfoldable pub said_by : List Tok → Option Said
said_by [] = Some nothing
said_by (t ∷ ts) = do
  w ← take_word (t ∷ ts)
  said_after w.0 w.1

-- the first byte that isn't a space is `#`
abbrev pub begins_comment : List ℕ → Bool
begins_comment [] = false
begins_comment (b ∷ bs) = if b == 32 then begins_comment bs else b == 35
