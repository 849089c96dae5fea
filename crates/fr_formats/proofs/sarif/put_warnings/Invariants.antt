use Rattle.std.proofs.Common.{◌≡◌, ◌++◌, take, flat_map, string_bytes}
use Rattle.fr_formats.specs.Sarif.{warning_result}
use Rattle.fr_formats.proofs.sarif.put_warnings.Given as goal

abbrev pub invariant-loop-warning : goal.invariant-loop-warning
invariant-loop-warning l = l.out.tokens ≡ l.initial.out.tokens ++ flat_map (warning_result (string_bytes l.answer.application)) (take l.warning-index l.warning-items)
