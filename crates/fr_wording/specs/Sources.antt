-- Where lines of code are in the source that an application was translated from.
--
-- | word           | meaning                                                                        |
-- |----------------|--------------------------------------------------------------------------------|
-- | source_at      | the place of the line of code at a point; empty where it isn't known           |
-- | source_text    | the comment after a line that names its place; empty where it isn't known      |
use Rattle.std.specs.Prelude.{ℕ, List, [], ◌∷◌, ◌++◌, None, Some, codes, encode_utf8_all, slice_get, string_bytes}
use Rattle.fr_escape.specs.Plain.{plain}
use Rattle.fr_program.specs.declared.ids.Point.{Point}
use Rattle.fr_wording.specs.declared.sources.Sources.{Sources}

-- the place of the line of code at a point; empty where it isn't known
abbrev pub source_at : Sources → Point → List ℕ
source_at S p = elim (slice_get S.places.items p.actor.0) [
  | None ↦ []
  | Some lines ↦ elim (slice_get lines.items p.pc) [ None ↦ [] | Some place ↦ string_bytes place ]
]

-- the comment after a line that names its place, without what steers a terminal; empty where it isn't known
abbrev pub source_text : List ℕ → List ℕ
source_text [] = []
source_text (c ∷ cs) = codes "  # " ++ encode_utf8_all (plain (c ∷ cs))
