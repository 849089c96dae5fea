-- The faults of a text that is no line: for each of the five, what is in the text.
--
-- | word          | meaning                                                                              |
-- |---------------|--------------------------------------------------------------------------------------|
-- | IsWrongKind   | Syntax: a number in place of a word, a word in place of a number, another word       |
-- | NamesNothing  | UnknownName: the word names no such thing                                            |
-- | IsBadNumber   | BadNumber: no number within the limits of this place has this text                   |
-- | InNaming, InPlain | the fault is present in a place for names, or in another one                        |
-- | InPlace       | the fault is present in this place                                                   |
-- | InArgs        | the fault is present in one of the arguments                                         |
-- | InVariable, InTarget, InInto, InElse | the same, of the other places of a line                       |
-- | InCall        | the fault is present in a call                                                       |
-- | InShape       | the fault is present in the shape                                                    |
-- | Stands        | the fault is present in the text                                                     |
use Rattle.std.specs.Prelude.{◌≡◌, ◌≢◌, ◌⊎◌, ℕ, ℤ, List, ◌∷◌, Option, Some, None, false, codes, length as list_length}
use Rattle.fr_instr.specs.declared.fault.LineFault.{LineFault}
use Rattle.fr_instr.specs.declared.fault.LineFault.TheVariants.{Syntax, UnknownName, UnknownCall, ArgCount, BadNumber}
use Rattle.fr_instr.specs.Tokens.{Spells}
use Rattle.fr_instr.specs.Shapes.{Word, name, numeral, Shape, set, set_to, branch, jump, pick, leave, call, shape_toks}
use Rattle.fr_instr.specs.Names.{NamesOf, place_of}
use Rattle.fr_instr.specs.Numbers.{IsInteger, IsTarget, IsTicks, IsLength}
use Rattle.fr_instr.specs.Calls.{Row, row_named, may_fail, may_answer}
use Rattle.fr_instr.specs.declared.call.Slot.{Slot}
use Rattle.fr_instr.specs.declared.call.Slot.TheVariants as place
use Rattle.fr_instr.specs.declared.call.Tail.{Tail}

-- a number where only a word may be, a word where only a number may be, or another word than the one that may be there
abbrev pub IsWrongKind : Slot → Word → Type 0
IsWrongKind place.Object (numeral d) = Unit {0}
IsWrongKind place.Variable (numeral d) = Unit {0}
IsWrongKind place.Length (name w) = Unit {0}
IsWrongKind place.Ticks (name w) = Unit {0}
IsWrongKind place.Time (name w) = w ≢ codes "portMAX_DELAY"
IsWrongKind place.Null (name w) = w ≢ codes "NULL"
IsWrongKind place.Null (numeral d) = Unit {0}
IsWrongKind p w = ⊥

-- a word that names no object where one has to be named, or no variable where one has to
abbrev pub NamesNothing : NamesOf → Slot → Word → Type 0
NamesNothing N place.Object (name w) = place_of N.objects w ≡ None
NamesNothing N place.Operand (name w) = place_of N.variables w ≡ None
NamesNothing N place.Variable (name w) = place_of N.variables w ≡ None
NamesNothing N p w = ⊥

-- a number, but with a text that no number within the limits of this place has
abbrev pub IsBadNumber : Slot → Word → Type 0
IsBadNumber place.Operand (numeral d) = (z : ℤ) → ¬ IsInteger d z
IsBadNumber place.Length (numeral d) = (n : ℕ) → ¬ IsLength d n
IsBadNumber place.Time (numeral d) = (n : ℕ) → ¬ IsTicks d n
IsBadNumber place.Ticks (numeral d) = (n : ℕ) → ¬ IsTicks d n
IsBadNumber p w = ⊥

-- the fault is present in the place of an object, an operand or a variable
abbrev pub InNaming : NamesOf → Slot → Word → LineFault → Type 0
InNaming N p w Syntax = IsWrongKind p w
InNaming N p w UnknownName = NamesNothing N p w
InNaming N p w BadNumber = IsBadNumber p w
InNaming N p w f = ⊥

-- the fault is present in the place of a length, a block time, ticks or NULL
abbrev pub InPlain : Slot → Word → LineFault → Type 0
InPlain p w Syntax = IsWrongKind p w
InPlain p w BadNumber = IsBadNumber p w
InPlain p w f = ⊥

-- the fault is present in what is written in a place of this kind
abbrev pub InPlace : NamesOf → Slot → Word → LineFault → Type 0
InPlace N place.Object w f = InNaming N place.Object w f
InPlace N place.Operand w f = InNaming N place.Operand w f
InPlace N place.Variable w f = InNaming N place.Variable w f
InPlace N place.Length w f = InPlain place.Length w f
InPlace N place.Time w f = InPlain place.Time w f
InPlace N place.Ticks w f = InPlain place.Ticks w f
InPlace N place.Null w f = InPlain place.Null w f

-- the fault is present in one of the arguments, each in its place
abbrev pub InArgs : NamesOf → List Slot → List Word → LineFault → Type 0
InArgs N (p ∷ ps) (w ∷ ws) f = InPlace N p w f ⊎ InArgs N ps ws f
InArgs N ps ws f = ⊥

-- another number of arguments, or a fault in one of them
abbrev pub InPlaces : NamesOf → List Slot → List Word → LineFault → Type 0
InPlaces N ps ws f = ((f ≡ ArgCount) × (list_length ws ≢ list_length ps)) ⊎ InArgs N ps ws f

-- the word names no variable
abbrev pub InVariable : NamesOf → List ℕ → LineFault → Type 0
InVariable N w f = (f ≡ UnknownName) × (place_of N.variables w ≡ None)

-- the text is that of no number of 64 bits with a sign
abbrev pub InInteger : List ℕ → LineFault → Type 0
InInteger d f = (f ≡ BadNumber) × ((z : ℤ) → ¬ IsInteger d z)

-- the text is that of no target
abbrev pub InTarget : List ℕ → LineFault → Type 0
InTarget d f = (f ≡ BadNumber) × ((k : ℕ) → ¬ IsTarget d k)

-- an `else` behind a call that can't fail, or a fault in its target
abbrev pub InElse : Tail → Option (List ℕ) → LineFault → Type 0
InElse tail None f = ⊥
InElse tail (Some d) f = ((f ≡ Syntax) × (may_fail tail ≡ false)) ⊎ InTarget d f

-- a `v =` before a call that answers no number, or a fault in its variable
abbrev pub InInto : NamesOf → Tail → Option (List ℕ) → LineFault → Type 0
InInto N tail None f = ⊥
InInto N tail (Some w) f = ((f ≡ Syntax) × (may_answer tail ≡ false)) ⊎ InVariable N w f

-- the fault is present in a call of this row
abbrev pub InNamed : NamesOf → Row → Option (List ℕ) → List Word → Option (List ℕ) → LineFault → Type 0
InNamed N r v ws e f = InElse r.tail e f ⊎ (InInto N r.tail v f ⊎ InPlaces N r.places ws f)

-- no call has the name, or the fault is present in the call of the name
abbrev pub InCall : NamesOf → Option (List ℕ) → List ℕ → List Word → Option (List ℕ) → LineFault → Type 0
InCall N v k ws e f = ((f ≡ UnknownCall) × (row_named k ≡ None)) ⊎ ((r : Row) × (row_named k ≡ Some r) × InNamed N r v ws e f)

-- the fault is present in the shape: in one of its words or numbers, or in its call
abbrev pub InShape : NamesOf → Shape → LineFault → Type 0
InShape N (set x a) f = InVariable N x f ⊎ InPlace N place.Operand a f
InShape N (set_to x a op b) f = InVariable N x f ⊎ (InPlace N place.Operand a f ⊎ InPlace N place.Operand b f)
InShape N (branch a c b d) f = InPlace N place.Operand a f ⊎ (InPlace N place.Operand b f ⊎ InTarget d f)
InShape N (jump d) f = InTarget d f
InShape N (pick x d e) f = InVariable N x f ⊎ (InInteger d f ⊎ InInteger e f)
InShape N leave f = ⊥
InShape N (call v k ws e) f = InCall N v k ws e f

-- the tokens have no shape, or they have one in which the fault is present
abbrev pub Stands : NamesOf → List ℕ → LineFault → Type 0
Stands N text f = ((f ≡ Syntax) × ((s : Shape) → ¬ Spells text (shape_toks s))) ⊎ ((s : Shape) × Spells text (shape_toks s) × InShape N s f)
