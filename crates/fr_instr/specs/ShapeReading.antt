-- The shape of some tokens, as a function: for private clauses. The code reads tokens in these steps.
--
-- | word                                          | meaning                                                          |
-- |-----------------------------------------------|------------------------------------------------------------------|
-- | ◌>>=◌                                         | the second step, if the first one gave something                 |
-- | operator_of, comparison_of                    | the operator, the comparison that a sign is, if it is one        |
-- | is_open, is_close, is_comma, is_assign        | whether a sign is `(`, `)`, `,`, `=`                             |
-- | take_word, take_number, take_value, take_sign | a token of this sort at the front, and what follows it           |
-- | at_end, target_end                            | a shape, a target, behind which nothing is                       |
-- | number_behind                                 | the number behind this word, and what follows it                 |
-- | set_tail, set_at, branch_at, jump_at, pick_at | a line behind its keyword                                        |
-- | keyword_at                                    | the same by the keyword                                          |
-- | behind_open, behind_close                     | what follows a bracket                                           |
-- | arg_before_comma, arg_before_close            | an argument and the sign behind it                               |
-- | with_arg, arg_then, some_args                 | one argument or more, up to the closing bracket                  |
-- | args_or, args_at                              | the same, or none                                                |
-- | else_tail, else_at                            | what is behind a call                                            |
-- | head_at, call_at, counted_at                  | a call's name and bracket; a call behind these, behind its `v =` |
-- | shape_behind, shape_at                        | a line behind its first word, and a whole one                    |
use Rattle.std.specs.Prelude.{ℕ, List, [], ◌∷◌, Bool, true, false, if◌then◌else◌, Option, Some, None, option_and_then, option_map, codes}
use Rattle.std.specs.Str.{bytes_eq}
use Rattle.fr_instr.specs.Tokens.{Tok, word, number, sign}
use Rattle.fr_instr.specs.Shapes.{Word, name, numeral, Shape, set, set_to, branch, jump, pick, leave, call}
use Rattle.fr_instr.specs.declared.token.Sign.{Sign}
use Rattle.fr_instr.specs.declared.token.Sign.TheVariants.{Open, Close, Comma, Assign, Plus, Minus, Times, Less, LessEqual, Greater, GreaterEqual, Equal, NotEqual}
use Rattle.fr_program.specs.declared.instr.Operator.{Operator}
use Rattle.fr_program.specs.declared.instr.Operator.TheVariants as operator
use Rattle.fr_program.specs.declared.instr.Comparison.{Comparison}
use Rattle.fr_program.specs.declared.instr.Comparison.TheVariants as comparison

-- the second step, if the first one gave something
infixl 10 ◌>>=◌
abbrev ◌>>=◌ : {A B : Type 0} → Option A → (A → Option B) → Option B
o >>= f = option_and_then f o

-- the operator that a sign is, if it is one
abbrev pub operator_of : Sign → Option Operator
operator_of Plus = Some operator.Plus
operator_of Minus = Some operator.Minus
operator_of Times = Some operator.Times
operator_of _ = None

-- the comparison that a sign is, if it is one
abbrev pub comparison_of : Sign → Option Comparison
comparison_of Less = Some comparison.Less
comparison_of LessEqual = Some comparison.AtMost
comparison_of Greater = Some comparison.Greater
comparison_of GreaterEqual = Some comparison.AtLeast
comparison_of Equal = Some comparison.Equal
comparison_of NotEqual = Some comparison.NotEqual
comparison_of _ = None

-- whether the sign is an opening bracket
abbrev pub is_open : Sign → Bool
is_open Open = true
is_open _ = false

-- whether the sign is a closing bracket
abbrev pub is_close : Sign → Bool
is_close Close = true
is_close _ = false

-- whether the sign is a comma
abbrev pub is_comma : Sign → Bool
is_comma Comma = true
is_comma _ = false

-- whether the sign is `=`
abbrev pub is_assign : Sign → Bool
is_assign Assign = true
is_assign _ = false

-- the text of the word at the front, if a word is there, and what follows it
abbrev pub take_word : List Tok → Option (List ℕ × List Tok)
take_word [] = None
take_word (word w ∷ ts) = Some (w, ts)
take_word (number d ∷ ts) = None
take_word (sign s ∷ ts) = None

-- the text of the number at the front, if a number is there, and what follows it
abbrev pub take_number : List Tok → Option (List ℕ × List Tok)
take_number [] = None
take_number (word w ∷ ts) = None
take_number (number d ∷ ts) = Some (d, ts)
take_number (sign s ∷ ts) = None

-- the word or number at the front, if one is there, and what follows it
abbrev pub take_value : List Tok → Option (Word × List Tok)
take_value [] = None
take_value (word w ∷ ts) = Some (name w, ts)
take_value (number d ∷ ts) = Some (numeral d, ts)
take_value (sign s ∷ ts) = None

-- the sign at the front, if a sign is there, and what follows it
abbrev pub take_sign : List Tok → Option (Sign × List Tok)
take_sign [] = None
take_sign (word w ∷ ts) = None
take_sign (number d ∷ ts) = None
take_sign (sign s ∷ ts) = Some (s, ts)

-- the shape, where nothing follows
abbrev pub at_end : Shape → List Tok → Option Shape
at_end s [] = Some s
at_end s (t ∷ ts) = None

-- the number behind this word, and what follows it
unfoldable pub number_behind : List ℕ → List Tok → Option (List ℕ × List Tok)
number_behind k ts = do
  w ← take_word ts
  if bytes_eq w.0 k then take_number w.1 else None

-- a `set` of this variable, behind its first operand: with no other operand, or with an operator and a second one
unfoldable pub set_tail : List ℕ → Word → List Tok → Option Shape
set_tail x a [] = Some (set x a)
set_tail x a (t ∷ ts) = do
  s ← take_sign (t ∷ ts)
  op ← operator_of s.0
  b ← take_value s.1
  at_end (set_to x a op b.0) b.1

-- a `set`, behind its keyword
unfoldable pub set_at : List Tok → Option Shape
set_at ts = do
  x ← take_word ts
  s ← take_sign x.1
  if is_assign s.0 then (take_value s.1 >>= λ a. set_tail x.0 a.0 a.1) else None

-- an `if`, behind its keyword
unfoldable pub branch_at : List Tok → Option Shape
branch_at ts = do
  a ← take_value ts
  s ← take_sign a.1
  c ← comparison_of s.0
  b ← take_value s.1
  l ← number_behind (codes "goto") b.1
  at_end (branch a.0 c b.0 l.0) l.1

-- a `goto`, behind its keyword
unfoldable pub jump_at : List Tok → Option Shape
jump_at ts = do
  l ← take_number ts
  at_end (jump l.0) l.1

-- a `pick`, behind its keyword
unfoldable pub pick_at : List Tok → Option Shape
pick_at ts = do
  x ← take_word ts
  lo ← take_number x.1
  hi ← take_number lo.1
  at_end (pick x.0 lo.0 hi.0) hi.1

-- a line other than a call, behind its keyword
unfoldable pub keyword_at : List ℕ → List Tok → Option Shape
keyword_at k ts =
    if bytes_eq k (codes "set") then set_at ts
    else if bytes_eq k (codes "if") then branch_at ts
    else if bytes_eq k (codes "goto") then jump_at ts
    else if bytes_eq k (codes "pick") then pick_at ts
    else if bytes_eq k (codes "return") then at_end leave ts
    else None

-- what follows an opening, or a closing, bracket
abbrev pub behind_open : Option (Sign × List Tok) → Option (List Tok)
behind_open None = None
behind_open (Some p) = if is_open p.0 then Some p.1 else None

-- what follows a closing bracket
abbrev pub behind_close : Option (Sign × List Tok) → Option (List Tok)
behind_close None = None
behind_close (Some p) = if is_close p.0 then Some p.1 else None

-- an argument before a comma, or before the closing bracket, and what follows that
unfoldable pub arg_before_comma : List Tok → Option (Word × List Tok)
arg_before_comma ts = do
  a ← take_value ts
  s ← take_sign a.1
  if is_comma s.0 then Some (a.0, s.1) else None

-- an argument before the closing bracket, and what follows that
unfoldable pub arg_before_close : List Tok → Option (Word × List Tok)
arg_before_close ts = do
  a ← take_value ts
  s ← take_sign a.1
  if is_close s.0 then Some (a.0, s.1) else None

-- arguments with this one before them, and what follows their closing bracket
abbrev pub with_arg : Word → Option (List Word × List Tok) → Option (List Word × List Tok)
with_arg a more = option_map (λ p. (a ∷ p.0, p.1)) more

-- this argument with the further ones where the sign behind it is a comma, and alone where it is the closing bracket
abbrev pub arg_then : Word → Sign → List Tok → Option (List Word × List Tok) → Option (List Word × List Tok)
arg_then a s ts more = if is_comma s then with_arg a more else if is_close s then Some (a ∷ [], ts) else None

-- one argument or more, up to the closing bracket, and what follows it
abbrev pub some_args : List Tok → Option (List Word × List Tok)
some_args (word w ∷ sign s ∷ ts) = arg_then (name w) s ts (some_args ts)
some_args (number d ∷ sign s ∷ ts) = arg_then (numeral d) s ts (some_args ts)
some_args ts = None

-- no argument where the closing bracket is at the front already, else one or more, and what follows the bracket
abbrev pub args_or : List Tok → Option (List Tok) → Option (List Word × List Tok)
args_or ts (Some rest) = Some ([], rest)
args_or ts None = some_args ts

-- the arguments up to the closing bracket, and what follows it
unfoldable pub args_at : List Tok → Option (List Word × List Tok)
args_at ts = args_or ts (behind_close (take_sign ts))

-- the text of a target, where nothing follows
abbrev pub target_end : List ℕ → List Tok → Option (List ℕ)
target_end l [] = Some l
target_end l (t ∷ ts) = None

-- the text of the target of an `else`, where nothing follows
unfoldable pub else_tail : List Tok → Option (List ℕ)
else_tail ts = do
  l ← number_behind (codes "else") ts
  target_end l.0 l.1

-- what is behind a call: nothing, or `else` with its target
abbrev pub else_at : List Tok → Option (Option (List ℕ))
else_at [] = Some None
else_at (t ∷ ts) = option_map Some (else_tail (t ∷ ts))

-- behind the opening bracket of a call
unfoldable pub call_at : Option (List ℕ) → List ℕ → List Tok → Option Shape
call_at v k ts = do
  bs ← args_at ts
  e ← else_at bs.1
  Some (call v k bs.0 e)

-- a call's name, and what follows its opening bracket
unfoldable pub head_at : List Tok → Option (List ℕ × List Tok)
head_at ts = do
  k ← take_word ts
  inside ← behind_open (take_sign k.1)
  Some (k.0, inside)

-- a call behind its `v =`, where v has this name
unfoldable pub counted_at : List ℕ → List Tok → Option Shape
counted_at x ts = do
  k ← head_at ts
  call_at (Some x) k.0 k.1

-- behind the first word of a line, where this sign follows it
abbrev pub shape_behind : List ℕ → List Tok → Option (Sign × List Tok) → Option Shape
shape_behind k ts None = keyword_at k ts
shape_behind k ts (Some p) = if is_open p.0 then call_at None k p.1 else if is_assign p.0 then counted_at k p.1 else keyword_at k ts

-- the shape that has these tokens, if there is one
unfoldable pub shape_at : List Tok → Option Shape
shape_at ts = take_word ts >>= λ k. shape_behind k.0 k.1 (take_sign k.1)
