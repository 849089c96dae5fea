-- Two lists, place by place, and a list with one more.
use Rattle.std.specs.Prelude.{◌≡◌, ◌++◌, List, [], ◌∷◌}

-- the two lists are as long, and this is so of each two that have the same place
abbrev pub Each : {A B : Type 0} → (A → B → Type 0) → List A → List B → Type 0
Each Is [] [] = Unit {0}
Each Is [] (y ∷ ys) = ⊥
Each Is (x ∷ xs) [] = ⊥
Each Is (x ∷ xs) (y ∷ ys) = Is x y × Each Is xs ys

-- one was added, of which this is so
abbrev pub IsAdded : {A : Type 0} → (A → Type 0) → List A → List A → Type 0
IsAdded {A} Is old new = (a : A) × Is a × (new ≡ old ++ a ∷ [])
