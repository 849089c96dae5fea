use Rattle.std.proofs.Common.{◌≡◌, ◌++◌, take, flat_map}
use Rattle.fr_formats.specs.Json.{answer_tokens}
use Rattle.fr_formats.proofs.as_json.json_text.Given as goal

abbrev pub invariant-loop-answer : goal.invariant-loop-answer
invariant-loop-answer l = l.out.tokens ≡ l.initial.out.tokens ++ flat_map answer_tokens (take l.answer-index l.answers)
