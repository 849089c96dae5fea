use Rattle.std.proofs.Common.{◌≡◌, ◌++◌, take, flat_map, string_bytes}
use Rattle.fr_formats.specs.Junit.{line_of}
use Rattle.fr_formats.proofs.junit.put_texts.Given as goal

abbrev pub invariant-loop-warning : goal.invariant-loop-warning
invariant-loop-warning l = string_bytes l.text ≡ string_bytes l.fn.text ++ flat_map (λ w. line_of (string_bytes w.text)) (take l.warning-index l.warnings)
