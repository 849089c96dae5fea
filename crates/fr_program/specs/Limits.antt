-- The limits on numbers, and on what an instruction may have.
--
-- | word                                          | meaning                                                         |
-- |-----------------------------------------------|-----------------------------------------------------------------|
-- | IsNumber                                      | a constant, a bound or a value: 64 bits with a sign             |
-- | most_actors, most_variables, most_objects     | how many of them an application has at the most                 |
-- | most_instructions                             | how many instructions an actor has at the most                  |
-- | most_size, IsSize                             | a size or a length is 1 to 65535                                |
-- | most_ticks                                    | a block time or a delay is 0 to 2147483647 ticks                |
-- | VariableInLimits, KindInLimits, InstrInLimits | the numbers of a variable, an object, an instruction are within |
-- | IsName, names_of                              | what a name may be, and all names of an application             |
use Rattle.std.specs.Prelude.{◌≡◌, ◌≤◌, ◌≤ℤ◌, ℕ, ℤ, pos, List, [], ◌∷◌, ◌++◌, Bool, true, false, length, All, IsTrue, FitsSigned, slice_index, nat_le, nat_eq, ◌&&◌, ◌||◌, codes, Contains, map}
use Rattle.std.specs.Int.{w64}
use Rattle.fr_program.specs.declared.instr.Instr.{Instr}
use Rattle.fr_program.specs.declared.instr.Instr.TheVariants.{Set, If, Pick, Call as Calls}
use Rattle.fr_program.specs.declared.instr.Call.TheVariants.{Delay, On}
use Rattle.fr_program.specs.declared.instr.Act.{Act}
use Rattle.fr_program.specs.declared.instr.Act.TheVariants.{Try, Move}
use Rattle.fr_program.specs.declared.instr.Attempt.TheVariants.{QueueSend}
use Rattle.fr_program.specs.declared.instr.Operand.{Operand}
use Rattle.fr_program.specs.declared.instr.Operand.TheVariants.{Number, Variable}
use Rattle.fr_program.specs.declared.parts.Kind.{Kind}
use Rattle.fr_program.specs.declared.parts.Kind.TheVariants.{Queue, Counting, Stream, Message}
use Rattle.fr_program.specs.declared.instr.BlockTime.{BlockTime}
use Rattle.fr_program.specs.declared.instr.BlockTime.TheVariants.{Ticks, MaxDelay}
use Rattle.fr_program.specs.declared.instr.Timing.{Timing}
use Rattle.fr_program.specs.declared.instr.Timing.TheVariants.{Waits}
use Rattle.fr_program.specs.Program.{Program, VariableOf}
use Rattle.fr_program.specs.Timings.{suits_timing}

-- a constant, a bound of a range, or a variable's value
abbrev pub IsNumber : ℤ → Type 0
IsNumber z = FitsSigned w64 z

-- how many actors an application has at the most
abbrev pub most_actors : ℕ
most_actors = 32

-- how many variables an application has at the most
abbrev pub most_variables : ℕ
most_variables = 64

-- how many objects an application has at the most
abbrev pub most_objects : ℕ
most_objects = 64

-- how many instructions an actor has at the most
abbrev pub most_instructions : ℕ
most_instructions = 512

-- the greatest size of an object, and the greatest length of a buffer call
abbrev pub most_size : ℕ
most_size = 65535

-- the greatest number of ticks in a block time or a delay
abbrev pub most_ticks : ℕ
most_ticks = 2147483647

-- a size is 1 to 65535
abbrev pub IsSize : ℤ → Type 0
IsSize size = (pos 1 ≤ℤ size) × (size ≤ℤ pos most_size)

-- a range with its initial value inside
pub record VariableInLimits (v : VariableOf) : Type 0 where
  pub lo : IsNumber v.lo
  pub hi : IsNumber v.hi
  pub from : v.lo ≤ℤ v.init
  pub to : v.init ≤ℤ v.hi

-- the size, the range and the first count of a kind of object, where it has them, are within their limits
abbrev pub KindInLimits : Kind → Type 0
KindInLimits (Queue size lo hi) = IsSize size × (lo ≤ℤ hi) × IsNumber lo × IsNumber hi
KindInLimits (Counting size first) = IsSize size × (pos 0 ≤ℤ first) × (first ≤ℤ size)
KindInLimits (Stream size) = IsSize size
KindInLimits (Message size) = IsSize size
KindInLimits kind = Unit {0}

-- the number, if the operand is one, has 64 bits with a sign
abbrev pub OperandInLimits : Operand → Type 0
OperandInLimits (Number z) = IsNumber z
OperandInLimits (Variable x) = Unit {0}

-- the number of ticks, if the block time is one, is within its limit
abbrev pub BlockTimeInLimits : BlockTime → Type 0
BlockTimeInLimits (Ticks n) = n ≤ most_ticks
BlockTimeInLimits MaxDelay = Unit {0}

-- the same of the block time of an object call, if it has one
abbrev pub TimingInLimits : Timing → Type 0
TimingInLimits (Waits time) = BlockTimeInLimits time
TimingInLimits timing = Unit {0}

-- the length of a buffer call is a size, and the number that is sent to a queue is one
abbrev pub ActInLimits : Act → Type 0
ActInLimits (Try (QueueSend value) e) = OperandInLimits value
ActInLimits (Try attempt e) = Unit {0}
ActInLimits (Move end buffer n result) = (1 ≤ n) × (n ≤ most_size)

-- the numbers of an instruction, but for targets, are within their limits, and a `pick` has its lower bound first
abbrev pub InstrInLimits : Instr → Type 0
InstrInLimits (Set x l op r) = OperandInLimits l × OperandInLimits r
InstrInLimits (If l comparison r target) = OperandInLimits l × OperandInLimits r
InstrInLimits (Pick x lo hi) = IsNumber lo × IsNumber hi × (lo ≤ℤ hi)
InstrInLimits (Calls (Delay n)) = n ≤ most_ticks
InstrInLimits (Calls (On call)) = IsTrue (suits_timing call.timing call.act) × TimingInLimits call.timing × ActInLimits call.act
InstrInLimits i = Unit {0}

-- an ASCII letter or an underscore
abbrev pub is_letter : ℕ → Bool
is_letter c = (nat_le 65 c && nat_le c 90) || (nat_le 97 c && nat_le c 122) || nat_eq c 95

-- an ASCII digit
abbrev pub is_digit : ℕ → Bool
is_digit c = nat_le 48 c && nat_le c 57

-- the words that no name is
abbrev pub reserved : List (List ℕ)
reserved = codes "set" ∷ codes "if" ∷ codes "goto" ∷ codes "pick" ∷ codes "return" ∷ codes "else" ∷ codes "NULL" ∷ codes "portMAX_DELAY" ∷ []

-- 1 to 32 ASCII letters, digits and underscores, with no digit first, and no reserved word
pub record IsName (name : List ℕ) : Type 0 where
  pub some : 1 ≤ length name
  pub short : length name ≤ 32
  pub letters : All (λ c. (is_letter c || is_digit c) ≡ true) name
  pub first : is_digit (slice_index name 0) ≡ false
  pub free : Contains reserved name → ⊥

-- the names of variables, objects and actors together
abbrev pub names_of : Program → List (List ℕ)
names_of P = map (λ v. v.name) P.variables ++ (map (λ o. o.name) P.objects ++ map (λ a. a.name) P.actors)
