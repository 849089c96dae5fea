-- Worked verdicts, on applications of one line. They show that the premises of soundness can be met, and that a verdict
-- of no names the part that a reader expects. Larger ones are worked rows: what `judge` says of each row is proved to be
-- the verdict of these definitions.
--
-- | word                          | meaning                                                                     |
-- |-------------------------------|-----------------------------------------------------------------------------|
-- | only_line, only_point         | one task with one instruction, the point before it                          |
-- | silent, one_note              | a note that says nothing more, a certificate with it alone                  |
-- | RoundIsYes, RoundIsCertified  | `goto 0`: the verdict is yes, and every premise of soundness is met         |
-- | ReturnIsNo                    | `return`: the verdict is no, by rule 11                                     |
use Rattle.std.specs.Prelude.{[], ◌∷◌}
use Rattle.fr_program.specs.declared.instr.Instr.{Instr}
use Rattle.fr_program.specs.declared.instr.Instr.TheVariants.{Goto, Return}
use Rattle.fr_program.specs.declared.ids.Point.{Point}
use Rattle.fr_program.specs.declared.ids.Side.TheVariants.{Before}
use Rattle.fr_program.specs.declared.parts.ActorKind.TheVariants.{Task}
use Rattle.fr_program.specs.Program.{Program}
use Rattle.fr_rules.specs.declared.rules.Rule.TheVariants.{EndsInOrder}
use Rattle.fr_notes.specs.Note.{Alternative}
use Rattle.fr_ends.specs.Certificate.{Certificate}
use Rattle.fr_judge.specs.Part.{RulePart}
use Rattle.fr_judge.specs.Verdict.{Yes, No, IsVerdict}
use Rattle.fr_judge.specs.Sound.{Certified}

-- a task t with this one instruction
abbrev pub only_line : Instr → Program
only_line i = record { variables = []; objects = []; actors = record { name = 116 ∷ []; kind = Task; code = i ∷ [] } ∷ [] }

-- the point before it
abbrev pub only_point : Point
only_point = record { actor = record { 0 = 0 }; pc = 0; side = Before }

-- a note that says only that the actor is in no critical section, doesn't suspend and holds no mutex
abbrev pub silent : Alternative
silent = record { critical = 0; suspended = 0; claims = []; ranges = [] }

-- one point, with that note
abbrev pub one_note : Certificate
one_note = record { notes = (silent ∷ []) ∷ []; ends = [] }

-- a task t that goes round: yes
abbrev pub RoundIsYes : Type 0
RoundIsYes = IsVerdict (only_line (Goto 0)) one_note Yes

-- and its application has no fault, so that the premises of soundness are met
abbrev pub RoundIsCertified : Type 0
RoundIsCertified = Certified (only_line (Goto 0)) one_note

-- a task t that returns: no, at its only point, by rule 11
abbrev pub ReturnIsNo : Type 0
ReturnIsNo = IsVerdict (only_line Return) one_note (No only_point (RulePart EndsInOrder))
