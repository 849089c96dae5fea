-- What is promised of the name that is nearest to a word.
--
-- | word      | meaning                                                              |
-- |-----------|----------------------------------------------------------------------|
-- | edits     | the fewest edits from one text to another                            |
-- | too_many  | as many edits as no name is shown for                                |
-- | IsFound   | a name to which so many edits lead, with more to each before it       |
-- | IsNearest | the first of the names to which the fewest edits lead, and few enough |
use Rattle.std.specs.Prelude.{◌≡◌, ◌≤◌, ◌<◌, ℕ, List, Some, All, length, min, nat_eq, slice_get, take}
use Rattle.std.specs.Str.{chars}
use Rattle.strsim.specs.Edits.{levenshtein_row}
use denote.Ref.{Bor}

-- the fewest edits from one text to another, where an edit adds, drops or changes one character
abbrev pub edits : List ℕ → List ℕ → ℕ
edits a b = levenshtein_row nat_eq (chars a) (chars b) (length (chars b))

-- as many edits as no name is told for: three, or as many as the word has bytes
abbrev pub too_many : List ℕ → ℕ
too_many word = min 3 (length word)

-- For private clauses: a name of these to which so many edits lead, with more edits to each before it.
pub record IsFound (word : List ℕ) (names : List (Bor (List ℕ))) (least : ℕ) (name : Bor (List ℕ)) : Type 0 where
  pub place : ℕ
  pub is_there : slice_get names place ≡ Some name
  pub is_least : edits word name.now ≡ least
  pub is_near : least < too_many word
  pub is_first : All (λ other. least < edits word other.now) (take place names)

-- the first of the names to which the fewest edits lead, and few enough
pub record IsNearest (word : List ℕ) (names : List (Bor (List ℕ))) (name : Bor (List ℕ)) : Type 0 where
  pub place : ℕ
  pub is_there : slice_get names place ≡ Some name
  pub is_near : edits word name.now < too_many word
  pub is_least : All (λ other. edits word name.now ≤ edits word other.now) names
  pub is_first : All (λ other. edits word name.now < edits word other.now) (take place names)
