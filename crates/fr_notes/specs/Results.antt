-- For private clauses: what the ends of object calls give a variable.
--
-- | word                  | meaning                                                                     |
-- |-----------------------|-----------------------------------------------------------------------------|
-- | size_of               | the size of a buffer                                                        |
-- | least_moved           | the least number of bytes that a call moves, where it moves any             |
-- | results_of            | the least and the greatest number that a call that works can give           |
-- | failed_into           | the variable that gets 0 where a call fails                                 |
-- | IsSmall               | a mutex is held at the most so often as a note can say                      |
use Rattle.std.specs.Prelude.{◌≤◌, ℕ, ℤ, pos, Option, None}
use Rattle.std.specs.Int.{int_min}
use Rattle.fr_program.specs.declared.ids.VarId.{VarId}
use Rattle.fr_program.specs.declared.instr.Act.{Act}
use Rattle.fr_program.specs.declared.instr.Act.TheVariants.{Try, Move}
use Rattle.fr_program.specs.declared.instr.BufferKind.{BufferKind}
use Rattle.fr_program.specs.declared.instr.BufferKind.TheVariants.{Stream as OfStream, Message as OfMessage}
use Rattle.fr_program.specs.declared.instr.End.{End}
use Rattle.fr_program.specs.declared.instr.End.TheVariants.{Writer, Reader}
use Rattle.fr_program.specs.declared.parts.Kind.{Kind}
use Rattle.fr_program.specs.declared.parts.Kind.TheVariants.{Queue, Stream, Message}
use Rattle.fr_notes.specs.Fits.{most_depth}
use Rattle.fr_notes.specs.Holding.{Holding, Own}

-- the size of a buffer
abbrev pub size_of : Kind → ℤ
size_of (Stream size) = size
size_of (Message size) = size
size_of kind = pos 0

-- the least number of bytes that a call of this length moves where it works: a message is sent whole
abbrev pub least_moved : End → BufferKind → ℕ → ℕ
least_moved end OfStream n = 0
least_moved Reader OfMessage n = 1
least_moved Writer OfMessage n = n

-- the least and the greatest number that a call that works can give a variable: a value of the queue, or a number of bytes
abbrev pub results_of : Kind → Act → ℤ × ℤ
results_of kind (Move end buffer n result) = (pos (least_moved end buffer n), int_min (pos n) (size_of kind))
results_of (Queue size lo hi) (Try attempt e) = (lo, hi)
results_of kind (Try attempt e) = (pos 0, pos 0)

-- the variable to which a call that fails gives 0
abbrev pub failed_into : Act → Option VarId
failed_into (Try attempt e) = None
failed_into (Move end buffer n result) = result

-- the mover holds it at the most so often as a note can say
abbrev pub IsSmall : Holding → Type 0
IsSmall (Own count) = count ≤ most_depth
IsSmall known = Unit {0}
