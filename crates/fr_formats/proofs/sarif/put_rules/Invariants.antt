use Rattle.std.proofs.Common.{◌≡◌, ◌++◌, map, take, flat_map}
use Rattle.fr_formats.specs.Sarif.{rule_of, rule_tokens}
use Rattle.fr_formats.proofs.sarif.put_rules.Given as goal

abbrev pub invariant-loop-ident : goal.invariant-loop-ident
invariant-loop-ident l = l.out.tokens ≡ l.initial.out.tokens ++ flat_map rule_tokens (map rule_of (take l.ident-index l.idents))
