-- Where the files of a list lie.
--
-- | word       | meaning                                                             |
-- |------------|---------------------------------------------------------------------|
-- | seen_from  | a path as it is seen from a folder, where there is one              |
-- | beside     | the path of a file that a list names                                |
use Rattle.std.specs.Prelude.{ℕ, List, Option, None, Some}
use Rattle.std.specs.Path.{path_join, path_parent}

-- the path as it is seen from this folder, where there is one
abbrev pub seen_from : Option (List ℕ) → List ℕ → List ℕ
seen_from None path = path
seen_from (Some folder) path = path_join folder path

-- the path, relative to the folder of the list; one from the root on stays as it is
abbrev pub beside : List ℕ → List ℕ → List ℕ
beside list path = seen_from (path_parent list) path
