use Rattle.std.proofs.Common.{◌≡◌, ◌++◌, ◌∷◌, [], take, flat_map, string_bytes}
use Rattle.json.specs.Token.{string}
use Rattle.fr_formats.proofs.as_json.put_warnings.Given as goal

abbrev pub invariant-loop-warning : goal.invariant-loop-warning
invariant-loop-warning l = l.out.tokens ≡ l.initial.out.tokens ++ flat_map (λ warning. string (string_bytes warning.text) ∷ []) (take l.warning-index l.warnings)
