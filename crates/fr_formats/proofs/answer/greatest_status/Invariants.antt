use Rattle.std.proofs.Common.{◌≡◌, take}
use Rattle.fr_formats.specs.Answers.{greatest_status}
use Rattle.fr_formats.proofs.answer.greatest_status.Given as goal

abbrev pub invariant-loop-answer : goal.invariant-loop-answer
invariant-loop-answer l = l.status ≡ greatest_status (take l.answer-index l.answers)
