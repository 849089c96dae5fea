-- What is written so far, beside what is left to write.
use Rattle.std.proofs.Common.{◌≡◌, ◌<◌, ◌≤◌, ◌+◌, ◌∙◌, ℕ, zero, suc, ℤ, List, [], ◌∷◌, ◌++◌, Bool, true, false, ◌&&◌, Greater, nat_cmp, length, get_or, drop, map, refl, sym, ap, arith, add-one, drop-cons}
use Rattle.fr_cert.proofs.Terms.{slice_cmp, list_all, drop_all, Data, number, unsigned, string, array, object, Items, no_items, item, Members, no_members, member, put, of_integer, items_view, view}
use Rattle.fr_cert.proofs.Terms.{Value, ActorId, actor_at, Program, object_of, Claim, Alternative, value_of, key_text, Key, with_named, with_count, with_field, each_tree, is_alive, is_gone}
use Rattle.fr_program.specs.declared.parts.Object.{Object}
use Rattle.fr_cert.specs.declared.key.Key.TheVariants as key
use Rattle.fr_cert.specs.Written.{with_each, names_where, alternative_tree, with_values}

pub drop_here : {A : Type 0} (xs : List A) (i : ℕ) (x : A) → i < length xs → x ≡ get_or xs i x → drop i xs ≡ x ∷ drop (i + 1) xs
drop_here xs i x within is = drop-cons xs i x within ∙ rw (sym is, add-one) refl

-- ---- each thing of a list, and what is said of it

pub each_more : {A B : Type 0} (f : A → B → Members → Members) (xs : List A) (ys : List B) (i : ℕ) (x : A) (y : B) (ms more whole : Members) → i < length xs → i < length ys → x ≡ get_or xs i x → y ≡ get_or ys i y → more ≡ f x y ms
    → with_each f (drop i xs) (drop i ys) ms ≡ whole → with_each f (drop (i + 1) xs) (drop (i + 1) ys) more ≡ whole
unfolding with_each
each_more f xs ys i x y ms more whole in_xs in_ys is_x is_y new h =
    let left = drop_here xs i x in_xs is_x in
    let right = drop_here ys i y in_ys is_y in
    rw new (sym (rw (left, right) refl) ∙ h)

pub each_end : {A B : Type 0} (f : A → B → Members → Members) (xs : List A) (ys : List B) (i : ℕ) (ms whole : Members) → length xs ≤ i → with_each f (drop i xs) (drop i ys) ms ≡ whole → ms ≡ whole
unfolding with_each
each_end f xs ys i ms whole past h =
    let none : with_each f (drop i xs) (drop i ys) ms ≡ ms = rw (drop_all i xs past) refl in
    sym none ∙ h

pub each_seen : {A B X Y : Type 0} (f : A → B → Members → Members) (g : X → A) (k : Y → B) (xs : List X) (ys : List Y) (ms : Members) → with_each (λ x y. f (g x) (k y)) xs ys ms ≡ with_each f (map g xs) (map k ys) ms
unfolding with_each
each_seen f g k [] ys ms = refl
each_seen f g k (x ∷ xs) [] ms = refl
each_seen f g k (x ∷ xs) (y ∷ ys) ms = each_seen f g k xs ys (f (g x) (k y) ms)

-- ---- a test of each thing of a list

pub all_more : {A : Type 0} (test : A → Bool) (xs : List A) (i : ℕ) (x : A) → i < length xs → x ≡ get_or xs i x → test x ≡ true → list_all test (drop i xs) ≡ list_all test xs → list_all test (drop (i + 1) xs) ≡ list_all test xs
all_more test xs i x within is passes h =
    let here : list_all test (drop i xs) ≡ list_all test (drop (i + 1) xs) = ap (list_all test) (drop_here xs i x within is) ∙ ap (λ b. b && list_all test (drop (i + 1) xs)) passes in
    sym here ∙ h

pub all_less : {A : Type 0} (test : A → Bool) (xs : List A) (i : ℕ) (x : A) → i < length xs → x ≡ get_or xs i x → test x ≡ false → list_all test (drop i xs) ≡ list_all test xs → false ≡ list_all test xs
all_less test xs i x within is fails h =
    let here : list_all test (drop i xs) ≡ false = ap (list_all test) (drop_here xs i x within is) ∙ ap (λ b. b && list_all test (drop (i + 1) xs)) fails in
    sym here ∙ h

pub all_end : {A : Type 0} (test : A → Bool) (xs : List A) (i : ℕ) → length xs ≤ i → list_all test (drop i xs) ≡ list_all test xs → true ≡ list_all test xs
all_end test xs i past h = sym (ap (list_all test) (drop_all i xs past)) ∙ h

-- ---- lists

-- the second list's entries behind the first one's
abbrev pub behind : Items → Items → Items
behind no_items es = es
behind (item d ds) es = item d (behind ds es)

behind_push : (vs : List Value) (v : Value) (es : Items) → behind (items_view (vs ++ v ∷ [])) es ≡ behind (items_view vs) (item (view v) es)
behind_push [] v es = refl
behind_push (w ∷ vs) v es = ap (item (view w)) (behind_push vs v es)

behind_none : (ds : Items) → behind ds no_items ≡ ds
behind_none no_items = refl
behind_none (item d ds) = ap (item d) (behind_none ds)

pub tree_more : {A : Type 0} (f : A → Data) (xs : List A) (i : ℕ) (x : A) (vs ws : List Value) (v : Value) → i < length xs → x ≡ get_or xs i x → view v ≡ f x → ws ≡ vs ++ v ∷ []
    → behind (items_view vs) (each_tree f (drop i xs)) ≡ each_tree f xs → behind (items_view ws) (each_tree f (drop (i + 1) xs)) ≡ each_tree f xs
tree_more f xs i x vs ws v within is value new h =
    let rest = each_tree f (drop (i + 1) xs) in
    ap (λ us. behind (items_view us) rest) new
    ∙ (behind_push vs v rest
    ∙ (ap (λ d. behind (items_view vs) (item d rest)) value
    ∙ (ap (λ l. behind (items_view vs) (each_tree f l)) (sym (drop_here xs i x within is)) ∙ h)))

pub tree_end : {A : Type 0} (f : A → Data) (xs : List A) (i : ℕ) (vs : List Value) → length xs ≤ i → behind (items_view vs) (each_tree f (drop i xs)) ≡ each_tree f xs → items_view vs ≡ each_tree f xs
tree_end f xs i vs past h = sym (behind_none (items_view vs)) ∙ (ap (λ l. behind (items_view vs) (each_tree f l)) (sym (drop_all i xs past)) ∙ h)

pub tree_seen : {A X : Type 0} (f : A → Data) (g : X → A) (xs : List X) → each_tree (λ x. f (g x)) xs ≡ each_tree f (map g xs)
tree_seen f g [] = refl
tree_seen f g (x ∷ xs) = ap (item (f (g x))) (tree_seen f g xs)

-- ---- lists of names

pub name_more : (test : Claim → Bool) (os : List Object) (cs : List Claim) (i : ℕ) (o : Object) (c : Claim) (vs ws : List Value) (v : Value) (whole : Items) → i < length os → i < length cs → o ≡ get_or os i o → c ≡ get_or cs i c
    → test c ≡ true → view v ≡ string (object_of o).name → ws ≡ vs ++ v ∷ [] → behind (items_view vs) (names_where test (map object_of (drop i os)) (drop i cs)) ≡ whole
    → behind (items_view ws) (names_where test (map object_of (drop (i + 1) os)) (drop (i + 1) cs)) ≡ whole
unfolding names_where
name_more test os cs i o c vs ws v whole in_os in_cs is_o is_c passes value new h =
    let rest = names_where test (map object_of (drop (i + 1) os)) (drop (i + 1) cs) in
    let left = ap (map object_of) (drop_here os i o in_os is_o) in
    let right = drop_here cs i c in_cs is_c in
    let here : names_where test (map object_of (drop i os)) (drop i cs) ≡ item (string (object_of o).name) rest = rw (left, right, passes) refl in
    ap (λ us. behind (items_view us) rest) new
    ∙ (behind_push vs v rest ∙ (ap (λ d. behind (items_view vs) (item d rest)) value ∙ (ap (behind (items_view vs)) (sym here) ∙ h)))

first_left : (os : List Object) (i : ℕ) → i < length os → (o : Object) × (drop i os ≡ o ∷ drop (suc i) os)
first_left [] i h = absurd (omega (arith, h))
first_left (o ∷ os) zero h = (o, refl)
first_left (o ∷ os) (suc i) h = first_left os i (omega (arith, h))

pub name_less : (test : Claim → Bool) (os : List Object) (cs : List Claim) (i : ℕ) (c : Claim) (vs : List Value) (whole : Items) → i < length os → i < length cs → c ≡ get_or cs i c → test c ≡ false
    → behind (items_view vs) (names_where test (map object_of (drop i os)) (drop i cs)) ≡ whole → behind (items_view vs) (names_where test (map object_of (drop (i + 1) os)) (drop (i + 1) cs)) ≡ whole
unfolding names_where
name_less test os cs i c vs whole in_os in_cs is_c fails h =
    let rest = names_where test (map object_of (drop (i + 1) os)) (drop (i + 1) cs) in
    let first = first_left os i in_os in
    let next : suc i ≡ i + 1 = omega arith in
    let left = ap (map object_of) (first.1 ∙ ap (λ k. first.0 ∷ drop k os) next) in
    let right = drop_here cs i c in_cs is_c in
    let here : names_where test (map object_of (drop i os)) (drop i cs) ≡ rest = rw (left, right, fails) refl in
    ap (behind (items_view vs)) (sym here) ∙ h

pub names_end : (test : Claim → Bool) (os : List Object) (cs : List Claim) (i : ℕ) (vs : List Value) (whole : Items) → length os ≤ i → behind (items_view vs) (names_where test (map object_of (drop i os)) (drop i cs)) ≡ whole → items_view vs ≡ whole
unfolding names_where
names_end test os cs i vs whole past h =
    let none : names_where test (map object_of (drop i os)) (drop i cs) ≡ no_items = rw (drop_all i os past) refl in
    sym (behind_none (items_view vs)) ∙ (ap (behind (items_view vs)) (sym none) ∙ h)

-- ---- keys

-- the six keys of an alternative
pub six_keys : (P : Program) (n : Alternative) (m0 m1 m2 m3 m4 m5 m6 : Members) (susp range live held dead crit : Data) → m0 ≡ no_members → m1 ≡ with_field key.Susp susp m0 → m2 ≡ with_field key.Range range m1
    → m3 ≡ with_field key.Live live m2 → m4 ≡ with_field key.Held held m3 → m5 ≡ with_field key.Dead dead m4 → m6 ≡ with_field key.Crit crit m5 → susp ≡ number (unsigned n.suspended) → crit ≡ number (unsigned n.critical)
    → range ≡ object (with_each with_named P.variables n.ranges no_members) → held ≡ object (with_each with_count P.objects n.claims no_members)
    → live ≡ array (names_where is_alive P.objects n.claims) → dead ≡ array (names_where is_gone P.objects n.claims) → object m6 ≡ alternative_tree P n
unfolding alternative_tree
six_keys P n m0 m1 m2 m3 m4 m5 m6 susp range live held dead crit none e1 e2 e3 e4 e5 e6 es ec er eh el ed = rw (e6, e5, e4, e3, e2, e1, none, es, ec, er, eh, el, ed) refl

-- the text of the first key is behind that of the second
abbrev pub IsGreater : Key → Key → Type 0
IsGreater k j = slice_cmp nat_cmp (key_text k) (key_text j) ≡ Greater

-- three keys in their order
pub three_keys : (k1 k2 k3 : Key) (t1 t2 t3 : List ℕ) (d1 d2 d3 e1 e2 e3 : Data) (m0 m1 m2 m3 : Members) → IsGreater k2 k1 → IsGreater k3 k1 → IsGreater k3 k2 → m1 ≡ put t1 d1 m0 → m2 ≡ put t2 d2 m1 → m3 ≡ put t3 d3 m2 → m0 ≡ no_members
    → t1 ≡ key_text k1 → t2 ≡ key_text k2 → t3 ≡ key_text k3 → d1 ≡ e1 → d2 ≡ e2 → d3 ≡ e3
    → object m3 ≡ object (member (key_text k1) e1 (member (key_text k2) e2 (member (key_text k3) e3 no_members)))
three_keys k1 k2 k3 t1 t2 t3 d1 d2 d3 e1 e2 e3 m0 m1 m2 m3 g21 g31 g32 first second third none s1 s2 s3 f1 f2 f3 = rw (third, second, first, none, s1, s2, s3, f1, f2, f3, g21, g31, g32) refl

-- ---- turn values

pub values_more : (P : Program) (es rest : List (ActorId × ℤ)) (a : ActorId) (z : ℤ) (ms more whole : Members) → es ≡ (a, z) ∷ rest → more ≡ put (actor_at P a.0).name (number (of_integer z)) ms → with_values P (map value_of es) ms ≡ whole
    → with_values P (map value_of rest) more ≡ whole
unfolding with_values
values_more P es rest a z ms more whole here new h = ap (with_values P (map value_of rest)) new ∙ (sym (ap (λ l. with_values P (map value_of l) ms) here) ∙ h)

pub values_end : (P : Program) (es : List (ActorId × ℤ)) (ms whole : Members) → es ≡ [] → with_values P (map value_of es) ms ≡ whole → ms ≡ whole
unfolding with_values
values_end P es ms whole none h = sym (ap (λ l. with_values P (map value_of l) ms) none) ∙ h
