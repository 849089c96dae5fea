use Rattle.std.proofs.Common.{◌≡◌, ◌++◌, take, flat_map}
use Rattle.fr_formats.specs.Sarif.{result_of, warning_results}
use Rattle.fr_formats.proofs.sarif.put_results.Given as goal

abbrev pub invariant-loop-answer : goal.invariant-loop-answer
invariant-loop-answer l = l.out.tokens ≡ l.initial.out.tokens ++ flat_map (λ a. result_of a ++ warning_results a) (take l.answer-index l.answers)
