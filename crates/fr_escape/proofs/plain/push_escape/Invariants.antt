use Rattle.std.proofs.Common.{◌≡◌, ◌++◌, ◌≤◌, string_bytes, encode_utf8_all}
use Rattle.std.specs.Char.Iter.{escape_rest, escape_end}
use Rattle.std.specs.Char.Escape.{escape_default}
use Rattle.fr_escape.proofs.plain.push_escape.Given as goal

abbrev pub invariant-loop-part : goal.invariant-loop-part
invariant-loop-part l = record {
  bound : escape_end l.part-iterator ≤ 10;
  text : string_bytes l.out ++ encode_utf8_all (escape_rest l.part-iterator) ≡ string_bytes l.fn.out ++ encode_utf8_all (escape_default l.fn.character);
}
