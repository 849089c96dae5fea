-- Places in lists, what a list keeps where one element is removed, and edges in turn.
use Rattle.std.proofs.Common.{◌≡◌, ◌≢◌, ◌<◌, ◌≤◌, ◌+◌, ◌-◌, ◌⊎◌, ℕ, zero, suc, List, [], ◌∷◌, ◌++◌, length, get_or, take, Option, None, Some, cond, true, false, refl, sym, ap, ◌∙◌, subst, inl, inr, ⊎_elim, arith, length-append}
use Rattle.std.specs.Prelude.{Contains, IfSome, nat_eq}
use Rattle.std.specs.Option.{is_some}
use Rattle.fr_order.proofs.Terms.{remove, cases_lt, eqb_tells, ObjId, Edge, place_in, IsListed, LeadsFrom, ClosesUp}
use Rattle.std.proofs.lemmas.List.Sums.{prefix_len-le-length, position_or_len_is}
use Rattle.std.proofs.lemmas.List.Folds.{position_or_len_push}
use Rattle.std.proofs.lemmas.List.Edits.{length-remove, get_or-remove_below, get_or-remove_above}
use Rattle.std.proofs.lemmas.Bool.{eq-eqb}

-- ---- elements

-- what is in a list is in it still where another element is removed
pub kept : {X : Type 0} (xs : List X) (i : ℕ) (x d : X) → i < length xs → Contains xs x → Contains (remove xs i) x ⊎ (get_or xs i x ≡ x)
kept xs i x d l (k, at, is) =
    ⊎_elim
    (λ less. inl (k, omega (arith, length-remove xs i l, less), get_or-remove_below xs i x k less l ∙ is))
    (λ more. ⊎_elim
    (λ h. inr (ap (λ j. get_or xs j x) (sym h.1) ∙ is))
    (λ h. let ne : k ≢ i = h.1 in
    let next : (k - 1) + 1 ≡ k = omega arith in
    inl (k - 1, omega (arith, length-remove xs i l), get_or-remove_above xs i x (k - 1) (omega arith) l ∙ ap (λ j. get_or xs j x) next ∙ is))
    (eqb_tells k i))
    (cases_lt k i)

-- ---- places

pub place-most : (mutexes : List ObjId) (m : ℕ) → place_in mutexes m ≤ length mutexes
place-most mutexes m = prefix_len-le-length _ mutexes

pub place-is : (mutexes : List ObjId) (m i : ℕ) (d : ObjId) → i < length mutexes → ((k : ℕ) → k < i → nat_eq (get_or mutexes k d).0 m ≡ false) → nat_eq (get_or mutexes i d).0 m ≡ true → place_in mutexes m ≡ i
place-is mutexes m i d l before here = position_or_len_is _ mutexes i d (omega arith) before (λ _. here)

pub place-none : (mutexes : List ObjId) (m : ℕ) (d : ObjId) → ((k : ℕ) → k < length mutexes → nat_eq (get_or mutexes k d).0 m ≡ false) → place_in mutexes m ≡ length mutexes
place-none mutexes m d none = position_or_len_is _ mutexes (length mutexes) d (omega arith) none (λ l. absurd (omega arith))

-- one more mutex at the end keeps the places of those that are listed
pub place-kept : (order : List ObjId) (x : ObjId) (m : ℕ) → IsListed order m → place_in (order ++ x ∷ []) m ≡ place_in order m
place-kept order x m l =
    ⊎_elim
    (λ h. absurd (omega (arith, h.1)))
    (λ h. position_or_len_push (λ y. nat_eq y.0 m) order x ∙ ap (λ b. cond b (length order + cond (nat_eq x.0 m) 0 1) (place_in order m)) h.0)
    (eqb_tells (place_in order m) (length order))

-- where a mutex that wasn't listed is after it
pub place-more : (order : List ObjId) (x : ObjId) (m : ℕ) → (IsListed order m → ⊥) → place_in (order ++ x ∷ []) m ≡ length order + cond (nat_eq x.0 m) 0 1
place-more order x m un =
    let most = place-most order m in
    ⊎_elim
    (λ h. position_or_len_push (λ y. nat_eq y.0 m) order x ∙ ap (λ b. cond b (length order + cond (nat_eq x.0 m) 0 1) (place_in order m)) h.0)
    (λ h. let ne : place_in order m ≢ length order = h.1 in absurd (un (omega (arith, most))))
    (eqb_tells (place_in order m) (length order))

pub length-more : (order : List ObjId) (x : ObjId) → length (order ++ x ∷ []) ≡ length order + 1
length-more order x = length-append order (x ∷ [])

pub listed-kept : (order : List ObjId) (x : ObjId) (m : ℕ) → IsListed order m → IsListed (order ++ x ∷ []) m
listed-kept order x m l = omega (arith, length-more order x, place-kept order x m l)

pub listed-cases : (order : List ObjId) (m : ℕ) → IsListed order m ⊎ (IsListed order m → ⊥)
listed-cases order m = ⊎_elim (λ l. inl l) (λ h. inr (λ l. omega (arith, l, h))) (cases_lt (place_in order m) (length order))

pub listed-new : (order : List ObjId) (x : ObjId) → IsListed (order ++ x ∷ []) x.0
listed-new order x =
    ⊎_elim
    (λ l. listed-kept order x x.0 l)
    (λ un. let e = place-more order x x.0 un ∙ ap (λ b. length order + cond b 0 1) (eq-eqb x.0 x.0 refl) in omega (arith, e, length-more order x))
    (listed-cases order x.0)

-- ---- edges in turn

pub leads-taken : (from to : ℕ) (path : List Edge) (j : ℕ) (d : Edge) → LeadsFrom from path to → j < length path → LeadsFrom from (take (suc j) path) (get_or path j d).taken.0
leads-taken from to [] j d leads l = absurd (omega arith)
leads-taken from to (e ∷ path) zero d leads l = (leads.0, refl)
leads-taken from to (e ∷ path) (suc j) d leads l = (leads.0, leads-taken e.taken.0 to path j d leads.1 (omega arith))

-- edges that lead from a mutex, with one among them that leads back to it
pub closes-taken : (from to : ℕ) (path : List Edge) (j : ℕ) (d : Edge) → LeadsFrom from path to → j < length path → (get_or path j d).taken.0 ≡ from → ClosesUp (take (suc j) path)
closes-taken from to [] j d leads l back = absurd (omega arith)
closes-taken from to (e ∷ path) j d leads l back =
    let all = leads-taken from to (e ∷ path) j d leads l in
    (refl, subst (λ t. LeadsFrom e.taken.0 (take j path) t) (back ∙ sym leads.0) all.1)

pub closes-all : (from : ℕ) (path : List Edge) → LeadsFrom from path from → 0 < length path → ClosesUp path
closes-all from [] leads l = absurd (omega arith)
closes-all from (e ∷ path) leads l = (refl, subst (λ t. LeadsFrom e.taken.0 path t) (sym leads.0) leads.1)

pub some-there : {X : Type 0} (P : X → Type 0) (o : Option X) → IfSome o P → is_some o ≡ true → (x : X) × P x
some-there P None h is = absurd (cc)
some-there P (Some x) h is = (x, h)
