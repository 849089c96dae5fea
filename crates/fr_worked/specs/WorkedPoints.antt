-- Worked points: two tasks, of which each sends to a stream buffer for ever, have six points.
--
-- | word              | meaning                                                              |
-- |-------------------|----------------------------------------------------------------------|
-- | sender, two       | a task that sends for ever, and an application of two such           |
-- | second_inside     | the point of the second one inside its call                          |
-- | WorkedPoints      | how many points there are, and which number that one has             |
use Rattle.std.specs.Prelude.{◌≡◌, pos, [], ◌∷◌, None, Some, true, length, slice_get}
use Rattle.fr_program.specs.declared.instr.Instr.TheVariants.{Goto, Call as Calls}
use Rattle.fr_program.specs.declared.instr.Call.TheVariants.{On}
use Rattle.fr_program.specs.declared.instr.Act.TheVariants.{Move}
use Rattle.fr_program.specs.declared.instr.End.TheVariants.{Writer}
use Rattle.fr_program.specs.declared.instr.BufferKind.TheVariants.{Stream as OfStream}
use Rattle.fr_program.specs.declared.instr.Timing.TheVariants.{Waits}
use Rattle.fr_program.specs.declared.instr.BlockTime.TheVariants.{MaxDelay}
use Rattle.fr_program.specs.declared.ids.Point.{Point}
use Rattle.fr_program.specs.declared.ids.Side.TheVariants.{Inside}
use Rattle.fr_program.specs.declared.parts.Kind.TheVariants.{Stream}
use Rattle.fr_program.specs.declared.parts.ActorKind.TheVariants.{Task}
use Rattle.fr_program.specs.Program.{Program, ActorOf}
use Rattle.fr_program.specs.Points.{points_of, point_number}

-- `xStreamBufferSend(sb, 8, portMAX_DELAY)`, `goto 0`
abbrev pub sender : ActorOf
sender = record {
  name = [];
  kind = Task;
  code = Calls (On (record { object = record { 0 = 0 }; timing = Waits MaxDelay; act = Move Writer OfStream 8 None })) ∷ Goto 0 ∷ [];
}

-- two senders and their stream buffer
abbrev pub two : Program
two = record {
  variables = [];
  objects = record { name = []; kind = Stream (pos 64); live = true } ∷ [];
  actors = sender ∷ sender ∷ [];
}

-- the second sender inside its call
abbrev pub second_inside : Point
second_inside = record { actor = record { 0 = 1 }; pc = 0; side = Inside }

-- there are six points, and the second sender inside its call is the fifth, with number 4
pub record WorkedPoints : Type 0 where
  pub six : length (points_of two) ≡ 6
  pub fifth : slice_get (points_of two) 4 ≡ Some second_inside
  pub number : point_number two second_inside ≡ 4
