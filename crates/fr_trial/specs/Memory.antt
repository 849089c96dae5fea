-- Files in memory, and what reading and replacing them means.
--
-- | word      | meaning                                                              |
-- |-----------|----------------------------------------------------------------------|
-- | Memory    | the files, each with its path and bytes, and the protected paths     |
-- | shown     | a path and its bytes, of a map's entry                               |
-- | bytes_at  | the bytes of the file at a path, where there is one                  |
-- | IsGiven   | what reading the file up to one byte more than a limit gives         |
-- | IsPut     | the files after one of them was given bytes                          |
-- | IsFree    | the path is none of the protected ones                               |
use Rattle.std.specs.Prelude.{◌≡◌, ◌≢◌, ◌+◌, ℕ, List, Option, Some, Contains, Vec, String, take, string_bytes}
use Rattle.std.specs.declared.alloc.Global.{Global}
use Rattle.std.specs.Map.{lookup}
use Rattle.std.specs.Str.{bytes_eq}

-- the files, each with its path and bytes, and the paths of those that are not to be replaced
pub record Memory : Type 0 where
  pub files : List (List ℕ × List ℕ)
  pub protected : List (List ℕ)

-- the path and the bytes of an entry
abbrev pub shown : String Global × Vec ℕ Global → List ℕ × List ℕ
shown entry = (string_bytes entry.0, entry.1.items)

-- the bytes of the file at this path, where there is one
abbrev pub bytes_at : Memory → List ℕ → Option (List ℕ)
bytes_at memory path = lookup (bytes_eq path) memory.files

-- the file at this path has some bytes, of which these are the first, at most one more than the limit
abbrev pub IsGiven : Memory → List ℕ → ℕ → List ℕ → Type 0
IsGiven memory path limit bytes = (whole : List ℕ) × (bytes_at memory path ≡ Some whole) × (bytes ≡ take (limit + 1) whole)

-- the file at this path has these bytes, each other file is as it was, and so are the protected paths
pub record IsPut (old : Memory) (path bytes : List ℕ) (new : Memory) : Type 0 where
  pub here : bytes_at new path ≡ Some bytes
  pub others : (other : List ℕ) → other ≢ path → bytes_at new other ≡ bytes_at old other
  pub protected : new.protected ≡ old.protected

-- the path is none of the protected ones
abbrev pub IsFree : Memory → List ℕ → Type 0
IsFree memory path = ¬ (Contains memory.protected path)
