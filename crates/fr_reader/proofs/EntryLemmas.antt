-- One more entry of an array, and one more thing that it means.
use Rattle.std.proofs.Common.{◌≡◌, ℕ, ◌+◌, ◌<◌, ◌≤◌, List, [], ◌∷◌, ◌++◌, length, get_or, take, sym, ap, ◌∙◌, subst, map}
use Rattle.std.proofs.lemmas.List.{take_more, take_all, map_push}
use Rattle.toml.specs.Data.{Data}
use Rattle.toml.specs.View.{items_view, view}
use Rattle.toml.specs.declared.value.Value.{Value}
use Rattle.toml.proofs.Views.{get_item_within}
use Rattle.fr_reader.specs.Texts.{Each}
use Rattle.fr_reader.specs.Faults.{InEach, Standing}
use Rattle.fr_reader.specs.declared.fault.ReadFault.{ReadFault}

pub each_push : {A : Type 0} (R : Data → A → Type 0) (xs : List Value) (x : Value) (vs : List A) (v : A) → Each R (items_view xs) vs → R (view x) v
    → Each R (items_view (xs ++ x ∷ [])) (vs ++ v ∷ [])
each_push R [] x [] v h p = (p, tt)
each_push R [] x (w ∷ vs) v h p = absurd h
each_push R (y ∷ xs) x [] v h p = absurd h
each_push R (y ∷ xs) x (w ∷ vs) v h p = (h.0, each_push R xs x vs v h.1 p)

-- the turn of a loop that reads the entries one after another
pub each_more : {A B : Type 0} (R : Data → A → Type 0) (f : B → A) (xs ys : List Value) (i : ℕ) (d : Value) (vs ws : List B) (v : B) → ys ≡ xs → i < length ys
    → Each R (items_view (take i xs)) (map f vs) → d ≡ get_or ys i d → R (view d) (f v) → ws ≡ vs ++ v ∷ []
    → Each R (items_view (take (i + 1) xs)) (map f ws)
each_more R f xs ys i d vs ws v same within h is p e =
    let P : Value → Type 0 = λ x. R (view x) (f v) in
    let here : d ≡ get_or xs i d = is ∙ ap (λ zs. get_or zs i d) same in
    rw (take_more xs i d (subst (λ zs. i < length zs) same within), e, map_push f vs v)
    (each_push R (take i xs) (get_or xs i d) (map f vs) (f v) h (subst P here p))

-- an entry that has a fault
pub each_wrong : (F : ℕ → Data → ReadFault → Type 0) (xs ys : List Value) (i : ℕ) (d : Value) (f : ReadFault) → ys ≡ xs → i < length ys → d ≡ get_or ys i d
    → Standing (F i (view d)) f → Standing (InEach F (items_view xs)) f
each_wrong F xs ys i d f same within is wrong named =
    let P : Value → Type 0 = λ x. F i (view x) f in
    let here : d ≡ get_or xs i d = is ∙ ap (λ zs. get_or zs i d) same in
    (i, view (get_or xs i d), sym (get_item_within xs i d (subst (λ zs. i < length zs) same within)), subst P here (wrong named))

-- its end
pub each_all : {A B : Type 0} (R : Data → A → Type 0) (f : B → A) (xs ys : List Value) (i : ℕ) (vs : List B) → ys ≡ xs → length ys ≤ i
    → Each R (items_view (take i xs)) (map f vs) → Each R (items_view xs) (map f vs)
each_all R f xs ys i vs same end h =
    let P : List Value → Type 0 = λ zs. Each R (items_view zs) (map f vs) in
    subst P (take_all i xs (subst (λ zs. length zs ≤ i) same end)) h
