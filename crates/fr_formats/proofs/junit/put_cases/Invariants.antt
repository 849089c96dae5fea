use Rattle.std.proofs.Common.{◌≡◌, ◌++◌, take, flat_map, string_bytes}
use Rattle.fr_formats.specs.Junit.{case_of}
use Rattle.fr_formats.proofs.junit.put_cases.Given as goal

abbrev pub invariant-loop-answer : goal.invariant-loop-answer
invariant-loop-answer l = string_bytes l.text ≡ string_bytes l.fn.text ++ flat_map case_of (take l.answer-index l.answers)
