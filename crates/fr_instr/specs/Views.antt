-- What the crate's types mean.
--
-- | word                  | meaning                                       |
-- |-----------------------|-----------------------------------------------|
-- | tok, toks             | tokens in code                                |
-- | is_of                 | a class of bytes                              |
-- | texts, text_in        | references to texts                           |
-- | word_of, words        | words and numbers in code                     |
-- | call_view, shape_view | shapes in code                                |
use Rattle.std.specs.Prelude.{ℕ, Bool, List, Option, map, option_map}
use Rattle.std.specs.Char.{is_ascii_digit}
use denote.Ref.{Bor}
use Rattle.fr_instr.specs.Tokens.{Tok, word, number, sign, is_space, is_word_byte}
use Rattle.fr_instr.specs.Shapes as meaning
use Rattle.fr_instr.specs.declared.shape.CallShape.{CallShape}
use Rattle.fr_instr.specs.declared.shape.Shape.{Shape}
use Rattle.fr_instr.specs.declared.shape.Shape.TheVariants as shape
use Rattle.fr_instr.specs.declared.shape.Value.{Value}
use Rattle.fr_instr.specs.declared.shape.Value.TheVariants as value
use Rattle.fr_instr.specs.declared.token.Token.{Token}
use Rattle.fr_instr.specs.declared.token.Token.TheVariants as token
use Rattle.fr_instr.specs.declared.token.Class.{Class}
use Rattle.fr_instr.specs.declared.token.Class.TheVariants as class

-- the token that one in code means
abbrev pub tok : Token → Tok
tok (token.Word w) = word w.now
tok (token.Number d) = number d.now
tok (token.Sign s) = sign s

-- the byte is of the class
abbrev pub is_of : Class → ℕ → Bool
is_of class.Space b = is_space b
is_of class.Word b = is_word_byte b
is_of class.Digit b = is_ascii_digit b

-- the tokens that those in code mean
abbrev pub toks : List Token → List Tok
toks ts = map tok ts

-- the texts in a list of references to them
abbrev pub texts : List (Bor (List ℕ)) → List (List ℕ)
texts ts = map (λ t. t.now) ts

-- the text that a reference is to, if there is one
abbrev pub text_in : Option (Bor (List ℕ)) → Option (List ℕ)
text_in t = option_map (λ w. w.now) t

-- the word or number that one in code means
abbrev pub word_of : Value → meaning.Word
word_of (value.Name w) = meaning.name w.now
word_of (value.Number d) = meaning.numeral d.now

-- the words and numbers that those in code mean
abbrev pub words : List Value → List meaning.Word
words vs = map word_of vs

-- the shape that a call's shape in code means
abbrev pub call_view : CallShape → meaning.Shape
call_view c = meaning.call (text_in c.into) c.name.now (words c.args.items) (text_in c.or_else)

-- the shape that one in code means
abbrev pub shape_view : Shape → meaning.Shape
shape_view (shape.Set x a) = meaning.set x.now (word_of a)
shape_view (shape.SetTo x a op b) = meaning.set_to x.now (word_of a) op (word_of b)
shape_view (shape.If a c b l) = meaning.branch (word_of a) c (word_of b) l.now
shape_view (shape.Goto l) = meaning.jump l.now
shape_view (shape.Pick x lo hi) = meaning.pick x.now lo.now hi.now
shape_view shape.Return = meaning.leave
shape_view (shape.Call c) = call_view c
