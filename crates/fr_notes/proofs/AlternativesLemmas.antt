-- The first alternatives of a note, one more at a time; and the alternatives of notes, joined one note after another.
use Rattle.std.proofs.Common.{◌≡◌, ◌<◌, ◌≤◌, ◌+◌, ℕ, List, [], ◌∷◌, ◌++◌, All, IsTrue, false, take, drop, length, get_or, refl, sym, ap, ◌∙◌, subst, ⊎_elim, append_assoc, append-nil, arith, length-append}
use Rattle.fr_notes.proofs.Terms.{cases_lt, false≢true, get_or_default, take_more, take-append-drop, All-head, All-tail, All-nil, All-append, Program, Alternative, Note, AlternativeFits, NoteFits, IsAmong, joined}

-- one of the first k + 1 is one of the first k, or the one at k
pub among-case : (Q : Type 0) (note : Note) (k : ℕ) (x n : Alternative) → k < length note → x ≡ get_or note k x → IsAmong note (k + 1) n → (IsAmong note k n → Q) → (x ≡ n → Q) → Q
among-case Q note k x n l e m old here =
    ⊎_elim (λ lt. old (m.0, lt, m.2)) (λ ge. let s : m.0 ≡ k = (let lt = m.1 in omega arith) in
    here (e ∙ get_or_default note k x n l ∙ subst (λ j. get_or note j n ≡ n) s m.2)) (cases_lt m.0 k)

joined_append : (xs ys : List Note) → joined (xs ++ ys) ≡ joined xs ++ joined ys
joined_append [] ys = refl
joined_append (x ∷ xs) ys = ap (λ t. x ++ t) (joined_append xs ys) ∙ sym (append_assoc x (joined xs) (joined ys))

-- one note more
pub joined_more : (xs : List Note) (i : ℕ) (x : Note) → i < length xs → x ≡ get_or xs i x → joined (take (i + 1) xs) ≡ joined (take i xs) ++ x
joined_more xs i x within is =
    ap joined (take_more xs i x within) ∙ (joined_append (take i xs) (get_or xs i x ∷ []) ∙ ap (λ t. joined (take i xs) ++ t) (append-nil (get_or xs i x) ∙ sym is))

pub count_more : (xs : List Note) (i n : ℕ) (x : Note) → i < length xs → x ≡ get_or xs i x → n ≡ length (joined (take i xs)) → n + length x ≡ length (joined (take (i + 1) xs))
count_more xs i n x within is so_far =
    let whole : length (joined (take (i + 1) xs)) ≡ length (joined (take i xs)) + length x = ap length (joined_more xs i x within is) ∙ length-append (joined (take i xs)) x in
    omega (arith, whole, so_far)

-- there are no more in the first notes than in all
count_least : (xs : List Note) (i : ℕ) → length (joined (take i xs)) ≤ length (joined xs)
count_least xs i =
    let whole : length (joined xs) ≡ length (joined (take i xs)) + length (joined (drop i xs)) =
    ap (λ t. length (joined t)) (sym (take-append-drop i xs)) ∙ (ap length (joined_append (take i xs) (drop i xs)) ∙ length-append (joined (take i xs)) (joined (drop i xs))) in
    omega (arith, whole)

pub too_many : (xs : List Note) (i n : ℕ) (x : Note) → i < length xs → x ≡ get_or xs i x → n ≡ length (joined (take i xs)) → 4 < n + length x
    → (IsTrue false → length (joined xs) ≤ 4) × (length (joined xs) ≤ 4 → IsTrue false)
too_many xs i n x within is so_far most =
    let least = count_least xs (i + 1) in
    let more = count_more xs i n x within is so_far in (
      (λ t. absurd (false≢true t)),
      (λ few. absurd (omega (arith, least, more, most, few))),
    )

all_fit : (P : Program) (xs : List Note) → All (NoteFits P) xs → All (λ n. AlternativeFits P n) (joined xs)
all_fit P [] h = All-nil (λ n. AlternativeFits P n)
all_fit P (x ∷ xs) h = All-append (λ n. AlternativeFits P n) x (joined xs) (All-head (NoteFits P) x xs h).1 (all_fit P xs (All-tail (NoteFits P) x xs h))

-- what is joined of notes that fit fits, if it isn't too much
pub joined_fits : (P : Program) (xs : List Note) (note : Note) → note ≡ joined xs → length (joined xs) ≤ 4 → All (NoteFits P) xs → NoteFits P note
joined_fits P xs note same few h = subst (NoteFits P) (sym same) (few, all_fit P xs h)
