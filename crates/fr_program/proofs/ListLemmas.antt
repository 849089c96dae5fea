-- What holds of each element of a mapped list, of an element that was read, and of a part of a list.
use Rattle.std.proofs.Common.{◌≡◌, ◌<◌, ◌+◌, ℕ, List, [], ◌∷◌, ◌++◌, length, map, get_or, refl, ap, subst, sym, below_more, All, arith, length-append}
use Rattle.std.specs.Prelude.{Any}
use Rattle.std.proofs.lemmas.List.{get_or-map, get_or_default, length-map, get_or_append_left, get_or-append-add}
use Rattle.std.proofs.lemmas.List.Elements.{Contains-append_left}

-- what holds of each image holds of each element, through the map
pub All-unmapped : {X Y : Type 0} (P : Y → Type 0) (f : X → Y) (xs : List X) → All P (map f xs) → All (λ x. P (f x)) xs
All-unmapped P f xs each = λ k d below.
    subst P (get_or-map f xs k d (f d) below) (each k (f d) (rw length-map below))

-- what holds of each element holds of one that was read
pub All-read : {X : Type 0} (P : X → Type 0) (xs : List X) (k : ℕ) (x : X) → k < length xs → x ≡ get_or xs k x → All P xs → P x
All-read P xs k x below is each = subst P (sym is) (each k x below)

-- the same, of an element of a mapped list
pub All-read_map : {X Y : Type 0} (P : Y → Type 0) (f : X → Y) (xs : List X) (k : ℕ) (x : X) → k < length xs → x ≡ get_or xs k x → All P (map f xs) → P (f x)
All-read_map P f xs k x below is each = All-read (λ y. P (f y)) xs k x below is (All-unmapped P f xs each)

-- what holds of each element so far and of the next one, read from an equal list, holds of one more
pub each_more : {X : Type 0} (P : X → Type 0) (xs ys : List X) (n : ℕ) (e : X) → ys ≡ xs → n < length ys →
    ((k : ℕ) (d : X) → k < n → P (get_or xs k d)) → P (get_or ys n e) → (k : ℕ) (d : X) → k < n + 1 → P (get_or xs k d)
each_more {X = X} P xs ys n e same within each here k d below =
    let next : (d : X) → P (get_or xs n d) = λ d. subst (λ zs. P (get_or zs n d)) same (subst P (get_or_default ys n e d within) here) in
    below_more (λ k. (d : X) → P (get_or xs k d)) n (λ k b d. each k d b) next k below d

-- where one list is another, a read of the one is a read of the other
pub read_same : {X : Type 0} (xs ys : List X) (n : ℕ) (x : X) → ys ≡ xs → x ≡ get_or ys n x → x ≡ get_or xs n x
read_same xs ys n x same is = subst (λ zs. x ≡ get_or zs n x) same is

-- what holds of each element of two lists, one after the other, holds of each element of either
pub All-left : {X : Type 0} (P : X → Type 0) (xs ys : List X) → All P (xs ++ ys) → All P xs
All-left P xs ys h k d within = subst P (get_or_append_left xs ys d k within) (h k d (omega (arith, length-append xs ys)))

pub All-right : {X : Type 0} (P : X → Type 0) (xs ys : List X) → All P (xs ++ ys) → All P ys
All-right P xs ys h k d within = subst P (get_or-append-add xs ys k d) (h (length xs + k) d (omega (arith, length-append xs ys)))

-- what holds of some element holds of one where there are more
pub Any-left : {X : Type 0} (P : X → Type 0) (xs ys : List X) → Any P xs → Any P (xs ++ ys)
Any-left P xs ys (k, x, below, is, holds) =
    let more = Contains-append_left xs ys x (k, below, is) in
    (more.0, x, more.1, more.2, holds)

-- two maps, one after the other, are one
pub map_map : {X Y Z : Type 0} (f : X → Y) (g : Y → Z) (xs : List X) → map g (map f xs) ≡ map (λ x. g (f x)) xs
map_map f g [] = refl
map_map f g (x ∷ xs) = ap (λ zs. g (f x) ∷ zs) (map_map f g xs)
