-- The line that a text is: its tokens have a shape, and what is in the shape means the parts of the line.
--
-- | word              | meaning                                                            |
-- |-------------------|--------------------------------------------------------------------|
-- | IsVariable        | the word is the variable's name                                    |
-- | IsOperand         | the word or number is the operand                                  |
-- | Says..            | the same of an object, a variable, a length, ticks, NULL           |
-- | Says              | a word or number is what is given in a place of this kind          |
-- | Gives, AreGiven   | what one word, or each of a list, gives in its place               |
-- | IsElse, IsInto    | the target behind a call, and the variable before it, if there     |
-- | IsCall            | what is in a call's shape is the call                              |
-- | IsLineOf          | what is in a shape is the line                                     |
-- | IsLine            | the text is the line                                               |
-- | IsLineIn          | the line's names exist, and its numbers are within their limits    |
use Rattle.std.specs.Prelude.{◌≡◌, ◌<◌, ◌≤◌, ℕ, ℤ, pos, List, [], ◌∷◌, Option, Some, None, true, codes, length}
use Rattle.fr_program.specs.Limits.{IsNumber, most_size, most_ticks, BlockTimeInLimits}
use Rattle.fr_program.specs.declared.ids.ObjId.{ObjId}
use Rattle.fr_program.specs.declared.ids.VarId.{VarId}
use Rattle.fr_program.specs.declared.instr.Operand.{Operand}
use Rattle.fr_program.specs.declared.instr.Operand.TheVariants.{Number, Variable}
use Rattle.fr_program.specs.declared.instr.Operator.TheVariants.{Plus}
use Rattle.fr_program.specs.declared.instr.BlockTime.{BlockTime}
use Rattle.fr_program.specs.declared.instr.BlockTime.TheVariants.{Ticks, MaxDelay}
use Rattle.fr_program.specs.declared.instr.Call.{Call}
use Rattle.fr_program.specs.declared.instr.Instr.{Instr}
use Rattle.fr_program.specs.declared.instr.Instr.TheVariants as line
use Rattle.fr_instr.specs.declared.call.Slot.{Slot}
use Rattle.fr_instr.specs.declared.call.Slot.TheVariants.{Object, Operand as Operands, Variable as Variables, Length, Time, Ticks as TicksSlot, Null}
use Rattle.fr_instr.specs.declared.call.Tail.{Tail}
use Rattle.fr_instr.specs.declared.given.Given.{Given}
use Rattle.fr_instr.specs.declared.given.TheConstants.{NOTHING}
use Rattle.fr_instr.specs.Tokens.{Spells}
use Rattle.fr_instr.specs.Shapes.{Word, name, numeral, Shape, set, set_to, branch, jump, pick, leave, call, shape_toks}
use Rattle.fr_instr.specs.Names.{NamesOf, place_of}
use Rattle.fr_instr.specs.Numbers.{IsInteger, IsTarget, IsTicks, IsLength, most_target}
use Rattle.fr_instr.specs.Calls.{Row, row_named, row_for, may_fail, may_answer, made, verb_of, given_of, put}

-- the word is the variable's name
abbrev pub IsVariable : NamesOf → List ℕ → VarId → Type 0
IsVariable N w x = place_of N.variables w ≡ Some x.0

-- the word is the object's name
abbrev pub IsObject : NamesOf → List ℕ → ObjId → Type 0
IsObject N w o = place_of N.objects w ≡ Some o.0

-- the word is the name of the variable that the operand is, or the number is the one that it is
abbrev pub IsOperand : NamesOf → Word → Operand → Type 0
IsOperand N (name w) (Variable x) = IsVariable N w x
IsOperand N (numeral d) (Number z) = IsInteger d z
IsOperand N w a = ⊥

-- the word is portMAX_DELAY and the block time without limit, or the number is that of its ticks
abbrev pub IsBlockTime : Word → BlockTime → Type 0
IsBlockTime (name w) MaxDelay = w ≡ codes "portMAX_DELAY"
IsBlockTime (numeral d) (Ticks n) = IsTicks d n
IsBlockTime w t = ⊥

-- a word, which is the object's name
abbrev pub SaysObject : NamesOf → Word → ObjId → Type 0
SaysObject N (name w) o = IsObject N w o
SaysObject N (numeral d) o = ⊥

-- a word, which is the variable's name
abbrev pub SaysVariable : NamesOf → Word → VarId → Type 0
SaysVariable N (name w) x = IsVariable N w x
SaysVariable N (numeral d) x = ⊥

-- a number, which is this length
abbrev pub SaysLength : Word → ℕ → Type 0
SaysLength (name w) n = ⊥
SaysLength (numeral d) n = IsLength d n

-- a number, which is this number of ticks
abbrev pub SaysTicks : Word → ℕ → Type 0
SaysTicks (name w) n = ⊥
SaysTicks (numeral d) n = IsTicks d n

-- the word NULL
abbrev pub SaysNull : Word → Type 0
SaysNull (name w) = w ≡ codes "NULL"
SaysNull (numeral d) = ⊥

-- the word or number is what is given in a place of this kind
abbrev pub Says : NamesOf → Slot → Word → Given → Type 0
Says N Object w g = SaysObject N w g.object
Says N Operands w g = IsOperand N w g.operand
Says N Variables w g = SaysVariable N w g.variable
Says N Length w g = SaysLength w g.bytes
Says N Time w g = IsBlockTime w g.time
Says N TicksSlot w g = SaysTicks w g.ticks
Says N Null w g = SaysNull w

-- h is g with what the word or number gives in this place
abbrev pub Gives : NamesOf → Slot → Word → Given → Given → Type 0
Gives N p w g h = Says N p w h × (h ≡ put p h g)

-- h is g with what the words and numbers give in these places, one in each
abbrev pub AreGiven : NamesOf → List Slot → List Word → Given → Given → Type 0
AreGiven N [] [] g h = h ≡ g
AreGiven N (p ∷ ps) (w ∷ ws) g h = (k : Given) × Gives N p w g k × AreGiven N ps ws k h
AreGiven N ps ws g h = ⊥

-- the text is that of the target behind a call that may fail, or there is neither
abbrev pub IsElse : Tail → Option (List ℕ) → Option ℕ → Type 0
IsElse tail None None = Unit {0}
IsElse tail (Some d) (Some k) = (may_fail tail ≡ true) × IsTarget d k
IsElse tail e k = ⊥

-- the word is the name of the variable before a call that answers a number, or there is neither
abbrev pub IsInto : NamesOf → Tail → Option (List ℕ) → Option VarId → Type 0
IsInto N tail None None = Unit {0}
IsInto N tail (Some w) (Some x) = (may_answer tail ≡ true) × IsVariable N w x
IsInto N tail w x = ⊥

-- the name has a row, and the call is what the row says, with the target behind it, the variable before it and what the
-- arguments give in the places of the row
pub record IsCall (N : NamesOf) (v : Option (List ℕ)) (k : List ℕ) (ws : List Word) (e : Option (List ℕ)) (c : Call) : Type 0 where
  pub row : Row
  pub given : Given
  pub target : Option ℕ
  pub variable : Option VarId
  pub named : row_named k ≡ Some row
  pub behind : IsElse row.tail e target
  pub before : IsInto N row.tail v variable
  pub args : AreGiven N row.places ws NOTHING given
  pub call : c ≡ made row.verb (record given { or_else = target; into = variable })

-- `set x = a` adds 0
abbrev pub IsLineOf : NamesOf → Shape → Instr → Type 0
IsLineOf N (set x a) l = (t : VarId) × (o : Operand) × IsVariable N x t × IsOperand N a o × (l ≡ line.Set t o Plus (Number (pos 0)))
IsLineOf N (set_to x a op b) l = (t : VarId) × (o : Operand) × (p : Operand) × IsVariable N x t × IsOperand N a o × IsOperand N b p × (l ≡ line.Set t o op p)
IsLineOf N (branch a c b d) l = (o : Operand) × (p : Operand) × (k : ℕ) × IsOperand N a o × IsOperand N b p × IsTarget d k × (l ≡ line.If o c p k)
IsLineOf N (jump d) l = (k : ℕ) × IsTarget d k × (l ≡ line.Goto k)
IsLineOf N (pick x d e) l = (t : VarId) × (lo : ℤ) × (hi : ℤ) × IsVariable N x t × IsInteger d lo × IsInteger e hi × (l ≡ line.Pick t lo hi)
IsLineOf N leave l = l ≡ line.Return
IsLineOf N (call v k ws e) l = (c : Call) × IsCall N v k ws e c × (l ≡ line.Call c)

-- the text is the line
abbrev pub IsLine : NamesOf → List ℕ → Instr → Type 0
IsLine N text l = (s : Shape) × Spells text (shape_toks s) × IsLineOf N s l

-- ---- lines that can be written

-- the variable is among the names
abbrev pub VariableIn : NamesOf → VarId → Type 0
VariableIn N x = x.0 < length N.variables

-- the operand is a variable among the names, or a number of 64 bits with a sign
abbrev pub OperandIn : NamesOf → Operand → Type 0
OperandIn N (Number z) = IsNumber z
OperandIn N (Variable x) = VariableIn N x

-- what is given in this place is among the names, or a number within the limits of the place
abbrev pub GivenIn : NamesOf → Slot → Given → Type 0
GivenIn N Object g = g.object.0 < length N.objects
GivenIn N Operands g = OperandIn N g.operand
GivenIn N Variables g = VariableIn N g.variable
GivenIn N Length g = (1 ≤ g.bytes) × (g.bytes ≤ most_size)
GivenIn N Time g = BlockTimeInLimits g.time
GivenIn N TicksSlot g = g.ticks ≤ most_ticks
GivenIn N Null g = Unit {0}

-- so it is in each of the places
abbrev pub AreGivenIn : NamesOf → List Slot → Given → Type 0
AreGivenIn N [] g = Unit {0}
AreGivenIn N (p ∷ ps) g = GivenIn N p g × AreGivenIn N ps g

-- the target behind a call, if it has one, is within the limit
abbrev pub ElseIn : Option ℕ → Type 0
ElseIn None = Unit {0}
ElseIn (Some k) = k ≤ most_target

-- the variable before a call, if it has one, is among the names
abbrev pub IntoIn : NamesOf → Option VarId → Type 0
IntoIn N None = Unit {0}
IntoIn N (Some x) = VariableIn N x

-- the call has a row, and what its line gives is there and within the limits of the places of the row
pub record IsCallIn (N : NamesOf) (c : Call) : Type 0 where
  pub row : Row
  pub listed : row_for (verb_of c) ≡ Some row
  pub args : AreGivenIn N row.places (given_of c)
  pub target : ElseIn (given_of c).or_else
  pub variable : IntoIn N (given_of c).into

-- the line is one of the grammar, its names exist, and its numbers are within the limits of their places
abbrev pub IsLineIn : NamesOf → Instr → Type 0
IsLineIn N (line.Set x a op b) = VariableIn N x × OperandIn N a × OperandIn N b
IsLineIn N (line.If a c b k) = OperandIn N a × OperandIn N b × (k ≤ most_target)
IsLineIn N (line.Goto k) = k ≤ most_target
IsLineIn N (line.Pick x lo hi) = VariableIn N x × IsNumber lo × IsNumber hi
IsLineIn N (line.Call c) = IsCallIn N c
IsLineIn N line.Return = Unit {0}
