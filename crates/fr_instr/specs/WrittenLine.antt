-- The one text in which a line is written: the shape of the line, with names and numbers for its parts.
--
-- | word                        | meaning                                                     |
-- |-----------------------------|-------------------------------------------------------------|
-- | operand_word, place_word, .. | the word or number that is written for an operand and so on |
-- | shape_of                    | the shape of a line, a `set` with its operator              |
-- | written_line                | its tokens, as they are written                             |
-- | joined                      | texts, one behind the other                                 |
-- | .._text                     | the same in the pieces that the code writes                 |
use Rattle.std.specs.Prelude.{ℕ, ℤ, pos, List, [], ◌∷◌, ◌++◌, Option, None, Some, map, option_map, codes}
use Rattle.std.specs.Fmt.{signed_decimal}
use Rattle.fr_program.specs.declared.ids.VarId.{VarId}
use Rattle.fr_program.specs.declared.instr.Operand.{Operand}
use Rattle.fr_program.specs.declared.instr.Operand.TheVariants.{Number, Variable}
use Rattle.fr_program.specs.declared.instr.Operator.{Operator}
use Rattle.fr_program.specs.declared.instr.Operator.TheVariants as operator
use Rattle.fr_program.specs.declared.instr.Comparison.{Comparison}
use Rattle.fr_program.specs.declared.instr.Comparison.TheVariants as comparison
use Rattle.fr_program.specs.declared.instr.BlockTime.{BlockTime}
use Rattle.fr_program.specs.declared.instr.BlockTime.TheVariants.{Ticks, MaxDelay}
use Rattle.fr_program.specs.declared.instr.Instr.{Instr}
use Rattle.fr_program.specs.declared.instr.Instr.TheVariants as line
use Rattle.fr_instr.specs.declared.call.Slot.{Slot}
use Rattle.fr_instr.specs.declared.call.Slot.TheVariants.{Object, Operand as Operands, Variable as Variables, Length, Time, Ticks as TicksSlot, Null}
use Rattle.fr_instr.specs.declared.given.Given.{Given}
use Rattle.fr_instr.specs.Names.{NamesOf, name_at}
use Rattle.fr_instr.specs.Shapes.{Word, name, numeral, Shape, set_to, branch, jump, pick, leave, call, shape_toks}
use Rattle.fr_instr.specs.Calls.{Row, row_of, verb_of, given_of}
use Rattle.fr_instr.specs.Written.{written}

-- the text of a number from 0 on
abbrev pub natural : ℕ → List ℕ
natural n = signed_decimal (pos n)

-- the word or number that is written for an operand
abbrev pub operand_word : NamesOf → Operand → Word
operand_word N (Number z) = numeral (signed_decimal z)
operand_word N (Variable x) = name (name_at N.variables x.0)

-- the word or number that is written for a block time
abbrev pub time_word : BlockTime → Word
time_word (Ticks n) = numeral (natural n)
time_word MaxDelay = name (codes "portMAX_DELAY")

-- the word or number that is written in a place
abbrev pub place_word : NamesOf → Given → Slot → Word
place_word N g Object = name (name_at N.objects g.object.0)
place_word N g Operands = operand_word N g.operand
place_word N g Variables = name (name_at N.variables g.variable.0)
place_word N g Length = numeral (natural g.bytes)
place_word N g Time = time_word g.time
place_word N g TicksSlot = numeral (natural g.ticks)
place_word N g Null = name (codes "NULL")

-- the name of the variable before a call, if it has one
abbrev pub into_name : NamesOf → Option VarId → Option (List ℕ)
into_name N v = option_map (λ x. name_at N.variables x.0) v

-- the shape of a call with this row and what its line gives
abbrev pub call_shape : NamesOf → Row → Given → Shape
call_shape N r g = call (into_name N g.into) r.name (map (place_word N g) r.places) (option_map natural g.or_else)

-- the shape of a line: a `set` always has an operator and two operands
abbrev pub shape_of : NamesOf → Instr → Shape
shape_of N (line.Set x a op b) = set_to (name_at N.variables x.0) (operand_word N a) op (operand_word N b)
shape_of N (line.If a c b k) = branch (operand_word N a) c (operand_word N b) (natural k)
shape_of N (line.Goto k) = jump (natural k)
shape_of N (line.Pick x lo hi) = pick (name_at N.variables x.0) (signed_decimal lo) (signed_decimal hi)
shape_of N (line.Call c) = call_shape N (row_of (verb_of c)) (given_of c)
shape_of N line.Return = leave

-- one space between tokens, but as `written` says
abbrev pub written_line : NamesOf → Instr → List ℕ
written_line N l = written (shape_toks (shape_of N l))

-- ---- the pieces

-- these texts, one behind the other
abbrev pub joined : List (List ℕ) → List ℕ
joined [] = []
joined (t ∷ []) = t
joined (t ∷ u ∷ more) = t ++ joined (u ∷ more)

-- the text of a word or number
abbrev pub word_text : Word → List ℕ
word_text (name w) = w
word_text (numeral d) = d

-- further arguments, each behind a comma and a space
abbrev pub more_text : List Word → List ℕ
more_text [] = []
more_text (a ∷ more) = codes ", " ++ (word_text a ++ more_text more)

-- arguments with a comma and a space between them
abbrev pub args_text : List Word → List ℕ
args_text [] = []
args_text (a ∷ more) = word_text a ++ more_text more

-- the `else` behind a call and its target, with their spaces, if the call has one
abbrev pub else_text : Option (List ℕ) → List ℕ
else_text None = []
else_text (Some d) = codes " else " ++ d

-- the variable before a call and its `=`, with their spaces, if the call has one
abbrev pub into_text : Option (List ℕ) → List ℕ
into_text None = []
into_text (Some x) = x ++ codes " = "

-- an operator between spaces
abbrev pub operator_text : Operator → List ℕ
operator_text operator.Plus = codes " + "
operator_text operator.Minus = codes " - "
operator_text operator.Times = codes " * "

-- a comparison between spaces
abbrev pub comparison_text : Comparison → List ℕ
comparison_text comparison.Less = codes " < "
comparison_text comparison.AtMost = codes " <= "
comparison_text comparison.Greater = codes " > "
comparison_text comparison.AtLeast = codes " >= "
comparison_text comparison.Equal = codes " == "
comparison_text comparison.NotEqual = codes " != "

-- an operand's name or number
abbrev pub operand_text : NamesOf → Operand → List ℕ
operand_text N a = word_text (operand_word N a)

-- a `set`
abbrev pub set_text : NamesOf → VarId → Operand → Operator → Operand → List ℕ
set_text N x a op b = codes "set " ++ (name_at N.variables x.0 ++ (codes " = " ++ (operand_text N a ++ (operator_text op ++ operand_text N b))))

-- an `if`
abbrev pub if_text : NamesOf → Operand → Comparison → Operand → ℕ → List ℕ
if_text N a c b k = codes "if " ++ (operand_text N a ++ (comparison_text c ++ (operand_text N b ++ (codes " goto " ++ natural k))))

-- a `goto`
abbrev pub goto_text : ℕ → List ℕ
goto_text k = codes "goto " ++ natural k

-- a `pick`
abbrev pub pick_text : NamesOf → VarId → ℤ → ℤ → List ℕ
pick_text N x lo hi = codes "pick " ++ (name_at N.variables x.0 ++ (codes " " ++ (signed_decimal lo ++ (codes " " ++ signed_decimal hi))))

-- a call with this name and these places
abbrev pub call_text : NamesOf → List ℕ → List Slot → Given → List ℕ
call_text N k ps g = into_text (into_name N g.into) ++ (k ++ (codes "(" ++ (args_text (map (place_word N g) ps) ++ (codes ")" ++ else_text (option_map natural g.or_else)))))

-- a line
abbrev pub line_text : NamesOf → Instr → List ℕ
line_text N (line.Set x a op b) = set_text N x a op b
line_text N (line.If a c b k) = if_text N a c b k
line_text N (line.Goto k) = goto_text k
line_text N (line.Pick x lo hi) = pick_text N x lo hi
line_text N (line.Call c) = call_text N (row_of (verb_of c)).name (row_of (verb_of c)).places (given_of c)
line_text N line.Return = codes "return"
