use Rattle.std.proofs.Common.{◌≡◌, ◌++◌, take, flat_map}
use Rattle.fr_formats.specs.Sarif.{notification_of}
use Rattle.fr_formats.proofs.sarif.put_all.Given as goal

abbrev pub invariant-loop-answer : goal.invariant-loop-answer
invariant-loop-answer l = l.out.tokens ≡ l.initial.out.tokens ++ flat_map notification_of (take l.answer-index l.answers)
