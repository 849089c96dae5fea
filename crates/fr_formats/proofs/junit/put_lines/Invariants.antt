use Rattle.std.proofs.Common.{◌≡◌, ◌++◌, take, flat_map, string_bytes}
use Rattle.fr_formats.specs.Junit.{line_of}
use Rattle.fr_formats.proofs.junit.put_lines.Given as goal

abbrev pub invariant-loop-line : goal.invariant-loop-line
invariant-loop-line l = string_bytes l.text ≡ string_bytes l.fn.text ++ flat_map (λ line. line_of (string_bytes line)) (take l.line-index l.lines)
