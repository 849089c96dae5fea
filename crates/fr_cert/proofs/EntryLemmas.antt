-- One more entry of a list, and one more thing that it means.
use Rattle.std.proofs.Common.{◌≡◌, ℕ, zero, suc, ◌+◌, ◌<◌, List, [], ◌∷◌, ◌++◌, Some, All, length, get_or, map, take, sym, ap, ◌∙◌, subst, arith}
use Rattle.fr_cert.proofs.Terms.{All-cons, All-nil, map-id, take_more, get_or-take, length-take-le, Data, Items, no_items, item, items_len, get_item, items_view, view, Value, get_item_within}
use Rattle.fr_cert.proofs.Terms.{items_len-items_view, EachEntry}

-- how many entries there are
pub view_length : (vs : List Value) → items_len (items_view vs) ≡ length vs
view_length vs = items_len-items_view vs

pub entry_push : {A : Type 0} (M : Data → A → Type 0) (vs : List Value) (v : Value) (xs : List A) (x : A) → EachEntry M (items_view vs) xs → M (view v) x → EachEntry M (items_view (vs ++ v ∷ [])) (xs ++ x ∷ [])
entry_push M [] v [] x h p = (p, tt)
entry_push M [] v (y ∷ xs) x h p = absurd h
entry_push M (w ∷ vs) v [] x h p = absurd h
entry_push M (w ∷ vs) v (y ∷ xs) x h p = (h.0, entry_push M vs v xs x h.1 p)

-- the turn of a loop that reads the entries one after another
pub entries_more : {A : Type 0} (M : Data → A → Type 0) (vs ws : List Value) (i : ℕ) (v : Value) (xs : List A) (x : A) → ws ≡ vs → i < length ws → v ≡ get_or ws i v
    → EachEntry M (items_view (take i vs)) xs → M (view v) x → EachEntry M (items_view (take (i + 1) vs)) (xs ++ x ∷ [])
entries_more M vs ws i v xs x same within is h p =
    let here : v ≡ get_or vs i v = is ∙ ap (λ us. get_or us i v) same in
    let there : M (view (get_or vs i v)) x = subst (λ u. M (view u) x) here p in
    rw (take_more vs i v (subst (λ us. i < length us) same within)) (entry_push M (take i vs) (get_or vs i v) xs x h there)

-- the entry of this turn
pub entry_here : (vs ws : List Value) (i : ℕ) (v : Value) → ws ≡ vs → i < length ws → v ≡ get_or ws i v → get_item i (items_view vs) ≡ Some (view v)
entry_here vs ws i v same within is =
    let there : i < length vs = subst (λ us. i < length us) same within in
    let here : v ≡ get_or vs i v = is ∙ ap (λ us. get_or us i v) same in
    sym (get_item_within vs i v there) ∙ ap (λ u. Some (view u)) (sym here)

-- what an entry means
entry_meant : {A : Type 0} (M : Data → A → Type 0) (vs : List Value) (xs : List A) (k : ℕ) (v : Value) (e : A) → EachEntry M (items_view vs) xs → k < length xs → (k < length vs) × M (view (get_or vs k v)) (get_or xs k e)
entry_meant M [] [] k v e h within = absurd (omega (arith, within))
entry_meant M [] (x ∷ xs) k v e h within = absurd h
entry_meant M (w ∷ vs) [] k v e h within = absurd h
entry_meant M (w ∷ vs) (x ∷ xs) zero v e h within = (omega arith, h.0)
entry_meant M (w ∷ vs) (x ∷ xs) (suc k) v e h within = let rest = entry_meant M vs xs k v e h.1 (omega (arith, within)) in (omega (arith, rest.0), rest.1)

-- an earlier entry, and what it means
pub record Earlier {A : Type 0} (M : Data → A → Type 0) (vs : List Value) (i k : ℕ) (x : A) : Type 0 where
  pub entry : Data
  pub before : k < i
  pub there : get_item k (items_view vs) ≡ Some entry
  pub means : M entry x

pub earlier : {A : Type 0} (M : Data → A → Type 0) (vs ws : List Value) (i : ℕ) (xs : List A) (k : ℕ) (v : Value) (e : A) → ws ≡ vs → i < length ws → EachEntry M (items_view (take i vs)) xs → k < length xs → Earlier M vs i k (get_or xs k e)
earlier M vs ws i xs k v e same within h in_xs =
    let meant = entry_meant M (take i vs) xs k v e h in_xs in
    let in_vs : i < length vs = subst (λ us. i < length us) same within in
    let before : k < i = omega (arith, meant.0, length-take-le i vs) in
    let place : get_or (take i vs) k v ≡ get_or vs k v = get_or-take i vs k v before in
    record {
      entry = view (get_or vs k v);
      before = before;
      there = sym (get_item_within vs k v (omega (arith, before, in_vs)));
      means = subst (λ u. M (view u) (get_or xs k e)) place meant.1;
    }

-- what each entry means, and what holds of all things beside it
pub each_both : {A : Type 0} (M : Data → A → Type 0) (Q : A → Type 0) (ds : Items) (xs : List A) → EachEntry (λ d x. M d x × Q x) ds xs → EachEntry M ds xs × All Q xs
each_both M Q no_items [] h = (tt, All-nil Q)
each_both M Q no_items (x ∷ xs) h = absurd h
each_both M Q (item d ds) [] h = absurd h
each_both M Q (item d ds) (x ∷ xs) h = let rest = each_both M Q ds xs h.1 in ((h.0.0, rest.0), All-cons Q x xs h.0.1 rest.1)

-- the same where what was read is what is meant
pub each_same : {A : Type 0} (M : Data → A → Type 0) (Q : A → Type 0) (ds : Items) (xs ys : List A) → EachEntry (λ d x. M d x × Q x) ds (map (λ x. x) xs) → ys ≡ xs → EachEntry M ds ys × All Q ys
each_same M Q ds xs ys h same = each_both M Q ds ys (subst (EachEntry (λ d x. M d x × Q x) ds) (map-id xs ∙ sym same) h)
