-- The names of an application, as the contracts see them: three lists, each name at its number.
use Rattle.std.specs.Prelude.{◌≢◌, ◌++◌, ℕ, List, [], Option, All, AllPairs, position, slice_index_or}
use Rattle.std.specs.Str.{bytes_eq}
use Rattle.fr_program.specs.Limits.{IsName}

-- the names of variables, of objects and of actors
pub record NamesOf : Type 0 where
  pub variables : List (List ℕ)
  pub objects : List (List ℕ)
  pub actors : List (List ℕ)

-- the place at which the name is
abbrev pub place_of : List (List ℕ) → List ℕ → Option ℕ
place_of names w = position (λ v. bytes_eq w v) names

-- the name at a place, or no text where the list has none
abbrev pub name_at : List (List ℕ) → ℕ → List ℕ
name_at names i = slice_index_or names i []

-- all three lists together
abbrev pub all_names : NamesOf → List (List ℕ)
all_names N = N.variables ++ (N.objects ++ N.actors)

-- each is a name, and is given once among all of them
pub record AreNames (N : NamesOf) : Type 0 where
  pub names : All IsName (all_names N)
  pub once : AllPairs (λ x y. x ≢ y) (all_names N)
