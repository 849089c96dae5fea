-- The words of a run, as a text gives them.
--
-- | word        | meaning                                                            |
-- |-------------|--------------------------------------------------------------------|
-- | comma       | the byte that parts two words                                      |
-- | IsRunWord   | one or more decimal digits, and the number that they say           |
-- | AreWords    | the text is these words, parted by single commas                   |
use Rattle.std.specs.Prelude.{◌≡◌, ◌<◌, ◌^◌, ℕ, List, [], ◌∷◌, ◌++◌}
use Rattle.std.specs.Str.Parse.{IsNumeral, digits_value}

-- the byte of `,`
abbrev pub comma : ℕ
comma = 44

-- one or more decimal digits that say this number, which is below 2^64; leading zeros are allowed
pub record IsRunWord (text : List ℕ) (word : ℕ) : Type 0 where
  pub digits : IsNumeral 10 text
  pub value : word ≡ digits_value 10 text
  pub fits : word < 2 ^ 64

-- the text is these words in their order, one or more, parted by single commas
abbrev pub AreWords : List ℕ → List ℕ → Type 0
AreWords text [] = ⊥
AreWords text (word ∷ []) = IsRunWord text word
AreWords text (word ∷ next ∷ words) =
    (first : List ℕ) × (rest : List ℕ) × (text ≡ first ++ comma ∷ rest) × IsRunWord first word × AreWords rest (next ∷ words)
