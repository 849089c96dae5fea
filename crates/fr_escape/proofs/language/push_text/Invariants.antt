use Rattle.std.proofs.Common.{◌≡◌, ◌++◌, IsUtf8, string_bytes, chars, flat_map, encode_utf8_all}
use Rattle.std.specs.Str.Iter.{chars_rest}
use Rattle.fr_escape.proofs.language.push_text.Given as goal

abbrev pub invariant-loop-character : goal.invariant-loop-character
invariant-loop-character g l = record {
  utf8 : IsUtf8 (chars_rest l.character-iterator);
  text : string_bytes l.out ++ encode_utf8_all (flat_map g.L.Language.written (chars (chars_rest l.character-iterator)))
      ≡ string_bytes l.fn.out ++ encode_utf8_all (flat_map g.L.Language.written (chars l.fn.text));
}
