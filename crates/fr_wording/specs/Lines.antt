-- The bytes of lines.
use Rattle.std.specs.Prelude.{ℕ, List, ◌++◌, codes, string_bytes}
use Rattle.std.specs.List.{flat_map}
use Rattle.std.specs.declared.string.String.{String}

-- the lines one after the other, each with its newline
abbrev pub lines_text : {Z : Type 0} → List (String Z) → List ℕ
lines_text lines = flat_map (λ line. string_bytes line ++ codes "\n") lines
