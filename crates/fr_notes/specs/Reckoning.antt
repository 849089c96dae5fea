-- What a `set` computes and an `if` leaves, where each variable has a number of its range: for the public contracts of
-- `Known::operand`, `Known::result` and `Known::branch`, and for those of `Index` of fr_effects. `IsNamed` is for private clauses.
--
-- | word                     | meaning                                                                             |
-- |--------------------------|-------------------------------------------------------------------------------------|
-- | operand_in, CanBeIn      | the numbers that an operand can be                                                  |
-- | IsNamed                  | the application has the operand's variable, if it is one                            |
-- | HasNumbersIn             | every range has ends of 64 bits                                                     |
-- | IsSpanIn                 | the exact span of what a `set` computes                                             |
-- | IsBranchIn, NoBranchIn   | the least ranges of an `if`'s operands on one of its ways; it never goes that way   |
use Rattle.std.specs.Prelude.{◌≡◌, ◌<◌, ℕ, ℤ, length}
use Rattle.fr_program.specs.declared.instr.Operand.{Operand}
use Rattle.fr_program.specs.declared.instr.Operand.TheVariants.{Number, Variable}
use Rattle.fr_program.specs.declared.instr.Operator.{Operator}
use Rattle.fr_program.specs.declared.range.Range.{Range}
use Rattle.fr_program.specs.Program.{Program}
use Rattle.fr_program.specs.Limits.{IsNumber}
use Rattle.fr_program.specs.Spans.{IsIn}
use Rattle.fr_rules.specs.Rule.{result_of}
use Rattle.fr_notes.specs.Note.{Within}

-- both ends of the numbers that an operand can be
abbrev pub operand_in : (ℕ → ℤ × ℤ) → Operand → ℤ × ℤ
operand_in range (Number z) = (z, z)
operand_in range (Variable x) = range x.0

-- the operand can be this number
abbrev pub CanBeIn : (ℕ → ℤ × ℤ) → Operand → ℤ → Type 0
CanBeIn range operand v = Within (operand_in range operand) v

-- the application has the operand's variable, if it is one
abbrev pub IsNamed : Program → Operand → Type 0
IsNamed P (Number z) = Unit {0}
IsNamed P (Variable x) = x.0 < length P.variables

-- the exact span of what a `set` computes: it has every result, and both of its ends are results
pub record IsSpanIn (range : ℕ → ℤ × ℤ) (op : Operator) (l r : Operand) (span : Range) : Type 0 where
  pub inside : (u v : ℤ) → CanBeIn range l u → CanBeIn range r v → IsIn span (result_of op u v)
  pub lo : (u : ℤ) × (v : ℤ) × CanBeIn range l u × CanBeIn range r v × (result_of op u v ≡ span.lo)
  pub hi : (u : ℤ) × (v : ℤ) × CanBeIn range l u × CanBeIn range r v × (result_of op u v ≡ span.hi)

-- the least ranges of both operands over all related pairs of numbers that they can be
pub record IsBranchIn (R : ℤ → ℤ → Type 0) (range : ℕ → ℤ × ℤ) (l r : Operand) (one other : Range) : Type 0 where
  pub inside : (u v : ℤ) → CanBeIn range l u → CanBeIn range r v → R u v → IsIn one u × IsIn other v
  pub one_lo : (v : ℤ) × CanBeIn range l one.lo × CanBeIn range r v × R one.lo v
  pub one_hi : (v : ℤ) × CanBeIn range l one.hi × CanBeIn range r v × R one.hi v
  pub other_lo : (u : ℤ) × CanBeIn range l u × CanBeIn range r other.lo × R u other.lo
  pub other_hi : (u : ℤ) × CanBeIn range l u × CanBeIn range r other.hi × R u other.hi

-- no two numbers that the operands can be are related
abbrev pub NoBranchIn : (ℤ → ℤ → Type 0) → (ℕ → ℤ × ℤ) → Operand → Operand → Type 0
NoBranchIn R range l r = (u v : ℤ) → CanBeIn range l u → CanBeIn range r v → R u v → ⊥

-- every range has ends of 64 bits
abbrev pub HasNumbersIn : (ℕ → ℤ × ℤ) → Type 0
HasNumbersIn range = (x : ℕ) → IsNumber (range x).0 × IsNumber (range x).1
