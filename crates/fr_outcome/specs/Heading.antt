-- How a path begins a line, where several files are answered.
--
-- | word    | meaning                                                                                              |
-- |---------|------------------------------------------------------------------------------------------------------|
-- | heading | without what steers a terminal, and never as `::`, which build servers take for a command            |
use Rattle.std.specs.Prelude.{◌++◌, ℕ, List, [], codes, encode_utf8_all, if◌then◌else◌, nat_eq}
use Rattle.std.specs.List.{starts_with}
use Rattle.fr_escape.specs.Plain.{plain}

-- how a path begins a line: without what steers a terminal, and never as `::`, which build servers take for a command
abbrev pub heading : List ℕ → List ℕ
heading path = (if starts_with nat_eq path (codes "::") then codes "./" else []) ++ (encode_utf8_all (plain path) ++ codes ": ")
