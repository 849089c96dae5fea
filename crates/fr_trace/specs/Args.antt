-- What the arguments of a call in a trace say: each token in its place, and the whole up to the closing bracket.
--
-- | word                 | meaning                                                                          |
-- |----------------------|----------------------------------------------------------------------------------|
-- | IsNumber             | the token is this number, or `?`                                                 |
-- | IsObjectAt           | the token is the name of this object, or `?`                                     |
-- | IsTimeAt             | the token is this block time, or `?`                                             |
-- | IsAnyName, IsNull    | the token is a word, is `NULL`; or it is `?`                                     |
-- | Puts                 | with the token in a place of this kind, what was seen before becomes this        |
-- | closing              | the closing bracket alone                                                        |
-- | PutsFirst            | so it is of the first of some tokens, and these follow it                        |
-- | PutsMore, PutsAll    | so it is of all further places, each after a comma, and of all places            |
-- | unseen_parts         | a call of which nothing but its name is recorded                                 |
use Rattle.std.specs.Prelude.{◌≡◌, ⊤, ℤ, List, [], ◌∷◌, codes}
use Rattle.fr_program.specs.declared.ids.ObjId.{ObjId}
use Rattle.fr_instr.specs.Lines.{IsObject}
use Rattle.fr_instr.specs.Names.{NamesOf}
use Rattle.fr_instr.specs.Numbers.{IsInteger}
use Rattle.fr_instr.specs.Tokens.{Tok, word, number, sign}
use Rattle.fr_instr.specs.declared.call.Slot.{Slot}
use Rattle.fr_instr.specs.declared.call.Slot.TheVariants.{Object, Operand, Variable, Length, Time, Ticks, Null}
use Rattle.fr_instr.specs.declared.call.Verb.{Verb}
use Rattle.fr_instr.specs.declared.token.Sign.TheVariants.{Comma, Close, Question}
use Rattle.fr_events.specs.declared.recorded.Recorded.{Recorded}
use Rattle.fr_events.specs.declared.recorded.Recorded.TheVariants.{Unknown, Known}
use Rattle.fr_events.specs.declared.seen_call.SeenCall.{SeenCall}
use Rattle.fr_events.specs.declared.seen_call.SeenTime.{SeenTime}
use Rattle.fr_events.specs.declared.seen_call.SeenTime.TheVariants as seen_time

-- the token is this number, or `?`
abbrev pub IsNumber : Tok → Recorded ℤ → Type 0
IsNumber (number d) (Known z) = IsInteger d z
IsNumber (sign Question) Unknown = ⊤
IsNumber t r = ⊥

-- the token is the name of this object, or `?`
abbrev pub IsObjectAt : NamesOf → Tok → Recorded ObjId → Type 0
IsObjectAt N (word w) (Known o) = IsObject N w o
IsObjectAt N (sign Question) Unknown = ⊤
IsObjectAt N t r = ⊥

-- the token is this block time, a number or `portMAX_DELAY`, or it is `?`
abbrev pub IsTimeAt : Tok → Recorded SeenTime → Type 0
IsTimeAt (word w) (Known seen_time.MaxDelay) = w ≡ codes "portMAX_DELAY"
IsTimeAt (number d) (Known (seen_time.Ticks z)) = IsInteger d z
IsTimeAt (sign Question) Unknown = ⊤
IsTimeAt t r = ⊥

-- the token is a word, or `?`
abbrev pub IsAnyName : Tok → Type 0
IsAnyName (word w) = ⊤
IsAnyName (sign Question) = ⊤
IsAnyName t = ⊥

-- the token is `NULL`, or `?`
abbrev pub IsNull : Tok → Type 0
IsNull (word w) = w ≡ codes "NULL"
IsNull (sign Question) = ⊤
IsNull t = ⊥

-- with the token in a place of this kind, s becomes u. What a receive writes to isn't a part of what is seen
abbrev pub Puts : NamesOf → Slot → Tok → SeenCall → SeenCall → Type 0
Puts N Object t s u = (o : Recorded ObjId) × IsObjectAt N t o × (u ≡ record s { object = o })
Puts N Operand t s u = (z : Recorded ℤ) × IsNumber t z × (u ≡ record s { value = z })
Puts N Variable t s u = IsAnyName t × (u ≡ s)
Puts N Length t s u = (z : Recorded ℤ) × IsNumber t z × (u ≡ record s { length = z })
Puts N Time t s u = (z : Recorded SeenTime) × IsTimeAt t z × (u ≡ record s { time = z })
Puts N Ticks t s u = (z : Recorded ℤ) × IsNumber t z × (u ≡ record s { ticks = z })
Puts N Null t s u = IsNull t × (u ≡ s)

-- the closing bracket alone
abbrev pub closing : List Tok
closing = sign Close ∷ []

-- with the first of these tokens in a place of this kind, s becomes u; the others follow it
abbrev pub PutsFirst : NamesOf → Slot → List Tok → SeenCall → SeenCall → List Tok → Type 0
PutsFirst N p ts s u rest = (t : Tok) × (ts ≡ t ∷ rest) × Puts N p t s u

-- with these tokens in these places, each after a comma, s becomes u; the closing bracket ends them
abbrev pub PutsMore : NamesOf → List Slot → List Tok → SeenCall → SeenCall → Type 0
PutsMore N [] ts s u = (ts ≡ closing) × (u ≡ s)
PutsMore N (p ∷ ps) ts s u =
    (inside : List Tok) × (v : SeenCall) × (rest : List Tok) × (ts ≡ sign Comma ∷ inside) × PutsFirst N p inside s v rest × PutsMore N ps rest v u

-- with these tokens in these places, with commas between, s becomes u; the closing bracket ends them
abbrev pub PutsAll : NamesOf → List Slot → List Tok → SeenCall → SeenCall → Type 0
PutsAll N [] ts s u = (ts ≡ closing) × (u ≡ s)
PutsAll N (p ∷ ps) ts s u = (v : SeenCall) × (rest : List Tok) × PutsFirst N p ts s v rest × PutsMore N ps rest v u

-- a call of which nothing but its name is recorded
abbrev pub unseen_parts : Verb → SeenCall
unseen_parts verb = record { verb = verb; object = Unknown; value = Unknown; length = Unknown; time = Unknown; ticks = Unknown }
