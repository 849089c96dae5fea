-- For private clauses: a list for each of so many variables or objects, as the index is made.
use Rattle.std.specs.Prelude.{ℕ, List, [], ◌∷◌, ◌++◌, Option, None, Some, set}
use Rattle.fr_effects.specs.Index.{list_at}

-- the lists, with the number behind the others in the one at this place, if there is one
abbrev pub enlisted : List (List ℕ) → Option ℕ → ℕ → List (List ℕ)
enlisted lists None number = lists
enlisted lists (Some place) number = set lists place (list_at lists place ++ number ∷ [])
