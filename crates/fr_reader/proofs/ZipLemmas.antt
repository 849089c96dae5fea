-- Two lists that agree place by place: one more of each.
use Rattle.std.proofs.Common.{◌≡◌, ℕ, ◌+◌, ◌<◌, List, [], ◌∷◌, ◌++◌, length, get_or, take, map, slice_get, Some, zero, suc, refl, arith}
use Rattle.std.specs.List.{AllZip}
use Rattle.std.proofs.lemmas.List.{take_more, map-append}

zip_push : {A B : Type 0} (R : A → B → Type 0) (xs : List A) (ys : List B) (x : A) (y : B) → AllZip R xs ys → R x y → AllZip R (xs ++ x ∷ []) (ys ++ y ∷ [])
zip_push R [] [] x y h p = (p, tt)
zip_push R [] (v ∷ ys) x y h p = absurd h
zip_push R (u ∷ xs) [] x y h p = absurd h
zip_push R (u ∷ xs) (v ∷ ys) x y h p = (h.0, zip_push R xs ys x y h.1 p)

-- the turn of a loop that makes the second list of the first one
pub zip_more : {A B C D : Type 0} (R : C → D → Type 0) (f : A → C) (g : B → D) (xs : List A) (i : ℕ) (d : A) (ys zs : List B) (y : B) → i < length xs
    → AllZip R (map f (take i xs)) (map g ys) → R (f (get_or xs i d)) (g y) → zs ≡ ys ++ y ∷ []
    → AllZip R (map f (take (i + 1) xs)) (map g zs)
zip_more R f g xs i d ys zs y within h p e =
    rw (take_more xs i d within, e, map-append f (take i xs) (get_or xs i d ∷ []), map-append g ys (y ∷ []))
    (zip_push R (map f (take i xs)) (map g ys) (f (get_or xs i d)) (g y) h p)

-- the thing at a place, seen through a view
pub get_mapped : {A C : Type 0} (f : A → C) (xs : List A) (i : ℕ) (d : A) → i < length xs → slice_get (map f xs) i ≡ Some (f (get_or xs i d))
get_mapped f [] i d below = absurd (omega (arith, below))
get_mapped f (x ∷ xs) zero d below = refl
get_mapped f (x ∷ xs) (suc i) d below = get_mapped f xs i d (omega (arith, below))

-- the turn of such a loop, where the second list needs no view
pub zip_line : {A B C : Type 0} (R : C → B → Type 0) (f : A → C) (xs : List A) (i : ℕ) (d : A) (ys zs : List B) (y : B) → i < length xs
    → AllZip R (map f (take i xs)) ys → R (f (get_or xs i d)) y → zs ≡ ys ++ y ∷ [] → AllZip R (map f (take (i + 1) xs)) zs
zip_line R f xs i d ys zs y within h p e =
    rw (take_more xs i d within, e, map-append f (take i xs) (get_or xs i d ∷ []))
    (zip_push R (map f (take i xs)) ys (f (get_or xs i d)) y h p)
