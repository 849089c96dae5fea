use Rattle.std.proofs.Common.{◌≡◌, ◌++◌, map, take, string_bytes}
use Rattle.fr_instr.specs.WrittenLine.{place_word, more_text}
use Rattle.fr_instr.proofs.writing.push_more_places.Given as goal

abbrev pub invariant-loop-place : goal.invariant-loop-place
invariant-loop-place l = string_bytes l.out ≡ string_bytes l.initial.out ++ more_text (map (place_word l.names l.given) (take l.place-index l.places))
