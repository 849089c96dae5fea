-- Pairs of a list's elements, where each element is compared with those after it.
use Rattle.std.proofs.Common.{◌≡◌, ◌<◌, ◌+◌, ◌-◌, ℕ, List, length, get_or, take, drop, subst, sym, arith, below_more, All, AllPairs}
use Rattle.std.proofs.lemmas.List.{get_or-drop, get_or_default, take_rest, length-drop}

-- the pairs so far, and those of the next element, whose later elements were read as a slice, are the pairs of one more
pub pairs_more : {X : Type 0} (R : X → X → Type 0) (xs : List X) (n : ℕ) (e : X) → n < length xs →
    ((i j : ℕ) (d : X) → i < n → i < j → j < length xs → R (get_or xs i d) (get_or xs j d)) →
    All (R (get_or xs n e)) (take (length xs - (n + 1)) (drop (n + 1) xs)) →
    (i j : ℕ) (d : X) → i < n + 1 → i < j → j < length xs → R (get_or xs i d) (get_or xs j d)
pairs_more {X = X} R xs n e within far near i j d below before last =
    let rest : All (R (get_or xs n e)) (drop (n + 1) xs) = subst (All (R (get_or xs n e))) (take_rest xs (n + 1)) near in
    let next : (j : ℕ) (d : X) → n < j → j < length xs → R (get_or xs n d) (get_or xs j d) = λ j d before last.
    let size = length-drop (n + 1) xs in
    let gap : (n + 1) + (j - (n + 1)) ≡ j = omega arith in
    let here : R (get_or xs n e) (get_or (drop (n + 1) xs) (j - (n + 1)) d) = rest (j - (n + 1)) d (omega arith) in
    let there : R (get_or xs n e) (get_or xs j d) = subst (λ k. R (get_or xs n e) (get_or xs k d)) gap (subst (R (get_or xs n e)) (get_or-drop (n + 1) xs (j - (n + 1)) d) here) in
    subst (λ x. R x (get_or xs j d)) (get_or_default xs n e d within) there in
    below_more (λ i. (j : ℕ) (d : X) → i < j → j < length xs → R (get_or xs i d) (get_or xs j d)) n (λ i b j d. far i j d b) next i below j d before last

-- where all pairs hold, those of one element hold
pub pairs_later : {X : Type 0} (R : X → X → Type 0) (xs : List X) (n : ℕ) (e : X) → n < length xs → AllPairs R xs →
    All (R (get_or xs n e)) (take (length xs - (n + 1)) (drop (n + 1) xs))
pairs_later R xs n e within pairs =
    subst (All (R (get_or xs n e))) (sym (take_rest xs (n + 1))) (λ k d below.
    let size = length-drop (n + 1) xs in
    let pair : R (get_or xs n d) (get_or xs ((n + 1) + k) d) = pairs n ((n + 1) + k) d (omega arith) (omega arith) in
    subst (R (get_or xs n e)) (sym (get_or-drop (n + 1) xs k d)) (subst (λ x. R x (get_or xs ((n + 1) + k) d)) (get_or_default xs n d e within) pair))
