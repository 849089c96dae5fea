use Rattle.std.proofs.Common.{◌≡◌, ◌++◌, ◌∷◌, [], take, flat_map, string_bytes}
use Rattle.json.specs.Token.{string}
use Rattle.fr_formats.proofs.as_json.put_lines.Given as goal

abbrev pub invariant-loop-line : goal.invariant-loop-line
invariant-loop-line l = l.out.tokens ≡ l.initial.out.tokens ++ flat_map (λ line. string (string_bytes line) ∷ []) (take l.line-index l.lines)
