use Rattle.std.proofs.Common.{◌≡◌, ◌++◌, take, flat_map, string_bytes, codes}
use Rattle.fr_formats.proofs.sarif.text_of.Given as goal

abbrev pub invariant-loop-line : goal.invariant-loop-line
invariant-loop-line l = string_bytes l.text ≡ string_bytes l.initial.text ++ flat_map (λ line. codes "\n" ++ string_bytes line) (take l.line-index l.line-items)
