-- Texts in markup.
use Rattle.std.specs.Prelude.{ℕ, List, ◌++◌, encode_utf8_all, flat_map, string_bytes}
use Rattle.std.specs.declared.string.String.{String}
use Rattle.fr_escape.specs.Html.{html}
use Rattle.fr_page.specs.declared.writer.Piece.{Piece}
use Rattle.fr_page.specs.declared.writer.Piece.TheVariants.{Markup, Text, Each}

-- the bytes of a text, as HTML has it
unfoldable pub escaped : List ℕ → List ℕ
escaped text = encode_utf8_all (html text)

-- a text between two pieces of markup, and several
unfoldable pub between : List ℕ → List ℕ → List ℕ → List ℕ
between opened text closed = opened ++ (escaped text ++ closed)

abbrev pub each : {Z : Type 0} → List ℕ → List (String Z) → List ℕ → List ℕ
each opened texts closed = flat_map (λ text. between opened (string_bytes text) closed) texts

abbrev pub bytes_of : Piece → List ℕ
bytes_of (Markup markup) = markup.now
bytes_of (Text text) = escaped text.now
bytes_of (Each opened texts closed) = each opened.now texts.now closed.now
