-- The shapes of lines, and the tokens that each has.
--
-- | word        | meaning                                                                          |
-- |-------------|----------------------------------------------------------------------------------|
-- | Word        | what is in the place of an operand or an argument: a word or a number's text     |
-- | Shape       | a line whose words and numbers are still their texts                             |
-- | word_tok    | the token of such a word                                                         |
-- | args_toks   | arguments with commas between them, up to the closing bracket                    |
-- | else_toks   | the `else` behind a call, with its target                                        |
-- | into_toks   | the variable before a call, with its `=`                                         |
-- | shape_toks  | the tokens of a shape                                                            |
use Rattle.std.specs.Prelude.{ℕ, List, [], ◌∷◌, ◌++◌, Option, Some, None, codes}
use Rattle.fr_instr.specs.Tokens.{Tok, word, number, sign}
use Rattle.fr_instr.specs.declared.token.Sign.{Sign}
use Rattle.fr_instr.specs.declared.token.Sign.TheVariants.{Open, Close, Comma, Assign, Plus, Minus, Times, Less, LessEqual, Greater, GreaterEqual, Equal, NotEqual}
use Rattle.fr_program.specs.declared.instr.Operator.{Operator}
use Rattle.fr_program.specs.declared.instr.Operator.TheVariants as operator
use Rattle.fr_program.specs.declared.instr.Comparison.{Comparison}
use Rattle.fr_program.specs.declared.instr.Comparison.TheVariants as comparison

-- what is in the place of an operand or an argument: a word or a number, as its text
pub data Word : Type 0 where
  name : List ℕ → Word
  numeral : List ℕ → Word

-- `call` has the variable before it, its name, its arguments and the target behind it
pub data Shape : Type 0 where
  set : List ℕ → Word → Shape
  set_to : List ℕ → Word → Operator → Word → Shape
  branch : Word → Comparison → Word → List ℕ → Shape
  jump : List ℕ → Shape
  pick : List ℕ → List ℕ → List ℕ → Shape
  leave : Shape
  call : Option (List ℕ) → List ℕ → List Word → Option (List ℕ) → Shape

-- the token of such a word or number
abbrev pub word_tok : Word → Tok
word_tok (name w) = word w
word_tok (numeral d) = number d

-- the sign of an operator
abbrev pub operator_sign : Operator → Sign
operator_sign operator.Plus = Plus
operator_sign operator.Minus = Minus
operator_sign operator.Times = Times

-- the sign of a comparison
abbrev pub comparison_sign : Comparison → Sign
comparison_sign comparison.Less = Less
comparison_sign comparison.AtMost = LessEqual
comparison_sign comparison.Greater = Greater
comparison_sign comparison.AtLeast = GreaterEqual
comparison_sign comparison.Equal = Equal
comparison_sign comparison.NotEqual = NotEqual

-- further arguments, each behind a comma
abbrev pub more_toks : List Word → List Tok
more_toks [] = sign Close ∷ []
more_toks (a ∷ bs) = sign Comma ∷ word_tok a ∷ more_toks bs

-- arguments with commas between them, and the closing bracket
abbrev pub args_toks : List Word → List Tok
args_toks [] = sign Close ∷ []
args_toks (a ∷ bs) = word_tok a ∷ more_toks bs

-- the `else` behind a call with its target, if it has one
abbrev pub else_toks : Option (List ℕ) → List Tok
else_toks None = []
else_toks (Some l) = word (codes "else") ∷ number l ∷ []

-- the variable before a call with its `=`, if it has one
abbrev pub into_toks : Option (List ℕ) → List Tok
into_toks None = []
into_toks (Some x) = word x ∷ sign Assign ∷ []

-- the tokens of a shape
abbrev pub shape_toks : Shape → List Tok
shape_toks (set x a) = word (codes "set") ∷ word x ∷ sign Assign ∷ word_tok a ∷ []
shape_toks (set_to x a op b) = word (codes "set") ∷ word x ∷ sign Assign ∷ word_tok a ∷ sign (operator_sign op) ∷ word_tok b ∷ []
shape_toks (branch a c b l) = word (codes "if") ∷ word_tok a ∷ sign (comparison_sign c) ∷ word_tok b ∷ word (codes "goto") ∷ number l ∷ []
shape_toks (jump l) = word (codes "goto") ∷ number l ∷ []
shape_toks (pick x lo hi) = word (codes "pick") ∷ word x ∷ number lo ∷ number hi ∷ []
shape_toks leave = word (codes "return") ∷ []
shape_toks (call v k bs e) = into_toks v ++ (word k ∷ sign Open ∷ (args_toks bs ++ else_toks e))
