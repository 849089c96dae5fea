-- The lines so far are those for the texts that were passed.
use Rattle.std.proofs.Common.{◌≡◌, map, string_bytes, take}
use Rattle.fr_escape.specs.Location.{place_line}
use Rattle.fr_escape.proofs.place.place_of_texts.Given as goal

abbrev pub invariant-loop-text : goal.invariant-loop-text
invariant-loop-text l = map (λ line. string_bytes line) l.place ≡ map (λ text. place_line (string_bytes text)) (take l.text-index l.texts)
