-- A change's ranges, and the ways of an `if`. `new_range`, with `range_after`, is for the public contract of `new_range`,
-- and `Turns` for that of `Known::branch`; `narrowed_to` is for private clauses.
--
-- | word                    | meaning                                                            |
-- |-------------------------|--------------------------------------------------------------------|
-- | Turns                   | an `if` goes this way at these two numbers                         |
-- | narrowed_to             | an operand's new range, where it is a variable                     |
-- | range_after, new_range  | a variable's range after one of a change's ranges, after a change  |
use Rattle.std.specs.Prelude.{ℕ, ℤ, Option, None, Some, nat_eq, if◌then◌else◌, IsTrue, IsFalse}
use Rattle.fr_program.specs.declared.ids.VarId.{VarId}
use Rattle.fr_program.specs.declared.instr.Comparison.{Comparison}
use Rattle.fr_program.specs.declared.instr.Operand.{Operand}
use Rattle.fr_program.specs.declared.instr.Operand.TheVariants.{Number, Variable}
use Rattle.fr_program.specs.declared.range.Range.{Range}
use Rattle.fr_rules.specs.declared.way.Way.{Way}
use Rattle.fr_rules.specs.declared.way.Way.TheVariants.{Then, Else}
use Rattle.fr_rules.specs.Step.{compare}
use Rattle.fr_notes.specs.declared.change.Change.{Change}
use Rattle.fr_notes.specs.View.{ends_of}

-- at these numbers an `if` goes this way
abbrev pub Turns : Way → Comparison → ℤ → ℤ → Type 0
Turns Then comparison u v = IsTrue (compare comparison u v)
Turns Else comparison u v = IsFalse (compare comparison u v)

-- the range goes to the operand, where that is a variable
abbrev pub narrowed_to : Operand → Range → Option (VarId × Range)
narrowed_to (Number z) range = None
narrowed_to (Variable x) range = Some (x, range)

-- a variable's range, where a change has one for it, and else the one before
abbrev pub range_after : Option (VarId × Range) → ℕ → ℤ × ℤ → ℤ × ℤ
range_after None x before = before
range_after (Some new) x before = if nat_eq new.0.0 x then ends_of new.1 else before

-- a variable's range after the change
abbrev pub new_range : Change → ℕ → ℤ × ℤ → ℤ × ℤ
new_range change x before = range_after change.first x (range_after change.second x before)
