-- The bytes of a listing: one line for each point of an application, in the order of their numbers.
--
-- | word           | meaning                                                                        |
-- |----------------|--------------------------------------------------------------------------------|
-- | code_text      | the line of code at a point, as it is written                                  |
-- | listed_text    | `<number> <actor> <instruction> <side> <line>`, its place in a source where that is known, with a newline |
-- | points_text    | the lines of all points                                                        |
use Rattle.std.specs.Prelude.{ℕ, List, [], ◌++◌, None, Some, codes, decimal}
use Rattle.std.specs.List.{flat_map}
use Rattle.fr_program.specs.declared.ids.Point.{Point}
use Rattle.fr_program.specs.Program.{Program}
use Rattle.fr_program.specs.Lookup.{actor_at, instr_of}
use Rattle.fr_program.specs.Points.{points_of, point_number}
use Rattle.fr_program.specs.Uses.{side_text}
use Rattle.fr_instr.specs.AppNames.{names_in}
use Rattle.fr_instr.specs.WrittenLine.{written_line}
use Rattle.fr_wording.specs.declared.sources.Sources.{Sources}
use Rattle.fr_wording.specs.Sources.{source_at, source_text}

-- the line of code at a point, with the application's names
abbrev pub code_text : Program → Point → List ℕ
code_text P p = elim (instr_of P p) [ None ↦ [] | Some i ↦ written_line (names_in P) i ]

-- the line of a point, with its place in the source and its newline
abbrev pub listed_text : Sources → Program → Point → List ℕ
listed_text S P p =
    decimal (point_number P p) ++ (codes " " ++ ((actor_at P p.actor.0).name
    ++ (codes " " ++ (decimal p.pc ++ (codes " " ++ (side_text p.side ++ (codes " " ++ (code_text P p ++ (source_text (source_at S p) ++ codes "\n")))))))))

-- the lines of all points, in the order of their numbers
abbrev pub points_text : Sources → Program → List ℕ
points_text S P = flat_map (listed_text S P) (points_of P)
