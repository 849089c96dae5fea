-- Names in an object: one more of them, and what the object then gives to each thing that is named. It serves ranges
-- and counts, which are written for all variables and objects in turn, and turn values, which are not.
use Rattle.std.proofs.Common.{◌≡◌, ◌≢◌, ◌<◌, ◌≤◌, ◌+◌, ◌∙◌, ℕ, zero, suc, List, [], ◌∷◌, ◌++◌, Bool, true, false, Option, Some, None, option_map, Ordering, Less, Equal, Greater, nat_cmp, nat_eq, bytes_eq, cond, find, get_or, length, map, AllPairs, refl, sym, ap, subst, arith}
use Rattle.fr_cert.proofs.Terms.{slice_cmp, AllByRecursion, position_or_len, match_ordering, false≢true, Decides-eqb, Decides-ltb, get_or-map}
use Rattle.fr_cert.proofs.Terms.{length-map, exact_bytes, same_Some, bytes_eq-Decides, Data, Members, no_members, member, put, Program, VariableOf, ObjectOf, ActorOf, no_variable, no_object, no_actor}
use Rattle.fr_cert.proofs.Terms.{variable_at, object_at, actor_at, IsFaultless, place_of, names_in, EachMember, IsNamed}
use Rattle.std.proofs.lemmas.List.Sums.{position_or_len_is}
use Rattle.std.proofs.lemmas.Bool.{ne_eqb}
use Rattle.fr_instr.proofs.NameLaws.{apart_left, apart_right}

-- what is given to the thing with this number
abbrev pub given : {A : Type 0} → List (ℕ × A) → ℕ → Option A
given xs n = option_map (λ x. x.1) (find (λ x. nat_eq x.0 n) xs)

given_step : {A : Type 0} (b : Bool) (x : ℕ × A) (o : Option (ℕ × A)) → option_map (λ y. y.1) (cond b (Some x) o) ≡ cond b (Some x.1) (option_map (λ y. y.1) o)
given_step true x o = refl
given_step false x o = refl

pub given-cons : {A : Type 0} (x : ℕ × A) (xs : List (ℕ × A)) (n : ℕ) → given (x ∷ xs) n ≡ cond (nat_eq x.0 n) (Some x.1) (given xs n)
given-cons x xs n = given_step (nat_eq x.0 n) x (find (λ y. nat_eq y.0 n) xs)

some_none : {A : Type 0} (x : A) → Some x ≡ None → ⊥
some_none x h = cc

-- nothing is given to a thing that none of them is for
not_given : {A : Type 0} (x : ℕ × A) (xs : List (ℕ × A)) (n : ℕ) → given (x ∷ xs) n ≡ None → (nat_eq x.0 n ≡ false) × (given xs n ≡ None)
not_given x xs n none = go (nat_eq x.0 n) refl (sym (given-cons x xs n) ∙ none)
  where
    go : (b : Bool) → nat_eq x.0 n ≡ b → cond b (Some x.1) (given xs n) ≡ None → (nat_eq x.0 n ≡ false) × (given xs n ≡ None)
    go true e h = absurd (some_none x.1 h)
    go false e h = (e, h)

swap_conds : {A : Type 0} (a b : Bool) (u v w : A) → (a ≡ true → b ≡ true → ⊥) → cond a u (cond b v w) ≡ cond b v (cond a u w)
swap_conds true true u v w h = absurd (h refl refl)
swap_conds true false u v w h = refl
swap_conds false true u v w h = refl
swap_conds false false u v w h = refl

-- ---- one more name

-- the object with one more name, and the list with one more thing
pub record More {A : Type 0} (names : List (List ℕ)) (Q : Data → A → Type 0) (R : ℕ × A → Type 0) (new : ℕ × A) (xs : List (ℕ × A)) (ms : Members) : Type 0 where
  pub ys : List (ℕ × A)
  pub named : EachMember (IsNamed names Q) ms ys
  pub each : AllByRecursion R ys
  pub found : (n : ℕ) → given ys n ≡ cond (nat_eq new.0 n) (Some new.1) (given xs n)

pub put_named : {A : Type 0} (names : List (List ℕ)) (Q : Data → A → Type 0) (R : ℕ × A → Type 0) (name : List ℕ) (d : Data) (i : ℕ) (a : A) (ms : Members) (xs : List (ℕ × A)) → place_of names name ≡ Some i → Q d a → R (i, a) → given xs i ≡ None
    → EachMember (IsNamed names Q) ms xs → AllByRecursion R xs → More names Q R (i, a) xs (put name d ms)
put_named names Q R name d i a no_members [] is means fits none named each = record { ys = (i, a) ∷ []; named = ((is, means), tt); each = (fits, tt); found = λ n. given-cons (i, a) [] n }
put_named names Q R name d i a no_members (x ∷ xs) is means fits none named each = absurd named
put_named names Q R name d i a (member l e ms) [] is means fits none named each = absurd named
put_named names Q R name d i a (member l e ms) (x ∷ xs) is means fits none named each =
    let other = not_given x xs i none in
    go (slice_cmp nat_cmp name l) refl other.0 (put_named names Q R name d i a ms xs is means fits other.1 named.1 each.1)
  where
    go : (o : Ordering) → slice_cmp nat_cmp name l ≡ o → nat_eq x.0 i ≡ false → More names Q R (i, a) xs (put name d ms)
        → More names Q R (i, a) (x ∷ xs) (match_ordering o (member name d (member l e ms)) (member l d ms) (member l e (put name d ms)))
    go Less o differ rest = record { ys = (i, a) ∷ x ∷ xs; named = ((is, means), named); each = (fits, each); found = λ n. given-cons (i, a) (x ∷ xs) n }
    go Equal o differ rest =
        let same : i ≡ x.0 = same_Some i x.0 (sym is ∙ ap (λ t. place_of names t) (exact_bytes name l o) ∙ named.0.0) in
        absurd (false≢true (sym differ ∙ (Decides-eqb x.0 i).1 (sym same)))
    go Greater o differ rest = record {
      ys = x ∷ rest.ys;
      named = (named.0, rest.named);
      each = (each.0, rest.each);
      found = λ n.
          given-cons x rest.ys n
          ∙ (ap (cond (nat_eq x.0 n) (Some x.1)) (rest.found n)
          ∙ (swap_conds (nat_eq x.0 n) (nat_eq i n) (Some x.1) (Some a) (given xs n) (λ p q. false≢true (sym differ ∙ (Decides-eqb x.0 i).1 ((Decides-eqb x.0 n).0 p ∙ sym ((Decides-eqb i n).0 q))))
          ∙ ap (cond (nat_eq i n) (Some a)) (sym (given-cons x xs n))));
    }

-- ---- all names in turn

-- the value under the name, if there is one
abbrev pub put_if : {A : Type 0} → (A → Data) → List ℕ → Option A → Members → Members
put_if tree name None ms = ms
put_if tree name (Some a) ms = put name (tree a) ms

-- so with each name
abbrev pub put_all : {A : Type 0} → (A → Data) → List (List ℕ) → List (Option A) → Members → Members
put_all tree [] os ms = ms
put_all tree (name ∷ names) [] ms = ms
put_all tree (name ∷ names) (o ∷ os) ms = put_all tree names os (put_if tree name o ms)

-- the object after the thing with this number
record Turn {A : Type 0} (names : List (List ℕ)) (Q : Data → A → Type 0) (R : ℕ × A → Type 0) (i : ℕ) (o : Option A) (xs : List (ℕ × A)) (ms : Members) : Type 0 where
  ys : List (ℕ × A)
  named : EachMember (IsNamed names Q) ms ys
  each : AllByRecursion R ys
  before : (n : ℕ) → n < i → given ys n ≡ given xs n
  now : given ys i ≡ o
  after : (n : ℕ) → i < n → given ys n ≡ None

turn : {A : Type 0} (names : List (List ℕ)) (Q : Data → A → Type 0) (R : ℕ × A → Type 0) (tree : A → Data) (name : List ℕ) (o : Option A) (i : ℕ) (ms : Members) (xs : List (ℕ × A)) → place_of names name ≡ Some i
    → ((a : A) → o ≡ Some a → Q (tree a) a × R (i, a)) → EachMember (IsNamed names Q) ms xs → AllByRecursion R xs → ((n : ℕ) → i ≤ n → given xs n ≡ None) → Turn names Q R i o xs (put_if tree name o ms)
turn names Q R tree name None i ms xs is fits named each fresh =
    record { ys = xs; named = named; each = each; before = λ n below. refl; now = fresh i (omega arith); after = λ n above. fresh n (omega (arith, above)) }
turn names Q R tree name (Some a) i ms xs is fits named each fresh =
    let fit = fits a refl in
    let more = put_named names Q R name (tree a) i a ms xs is fit.0 fit.1 (fresh i (omega arith)) named each in
    record {
      ys = more.ys;
      named = more.named;
      each = more.each;
      before = λ n below. more.found n ∙ ap (λ b. cond b (Some a) (given xs n)) (ne_eqb i n (λ same. omega (arith, same, below)));
      now = more.found i ∙ ap (λ b. cond b (Some a) (given xs i)) ((Decides-eqb i i).1 refl);
      after = λ n above. more.found n ∙ (ap (λ b. cond b (Some a) (given xs n)) (ne_eqb i n (λ same. omega (arith, same, above))) ∙ fresh n (omega (arith, above)));
    }

-- the object after all of them
pub record Whole {A : Type 0} (names : List (List ℕ)) (Q : Data → A → Type 0) (R : ℕ × A → Type 0) (i : ℕ) (os : List (Option A)) (xs : List (ℕ × A)) (ms : Members) : Type 0 where
  pub ys : List (ℕ × A)
  pub named : EachMember (IsNamed names Q) ms ys
  pub each : AllByRecursion R ys
  pub before : (n : ℕ) → n < i → given ys n ≡ given xs n
  pub all : (k : ℕ) → k < length os → given ys (i + k) ≡ get_or os k None

pub whole : {A : Type 0} (names : List (List ℕ)) (Q : Data → A → Type 0) (R : ℕ × A → Type 0) (tree : A → Data) (ns : List (List ℕ)) (os : List (Option A)) (i : ℕ) (ms : Members) (xs : List (ℕ × A)) → length os ≡ length ns
    → ((k : ℕ) → k < length ns → place_of names (get_or ns k []) ≡ Some (i + k)) → ((k : ℕ) (a : A) → k < length ns → get_or os k None ≡ Some a → Q (tree a) a × R (i + k, a))
    → EachMember (IsNamed names Q) ms xs → AllByRecursion R xs → ((n : ℕ) → i ≤ n → given xs n ≡ None) → Whole names Q R i os xs (put_all tree ns os ms)
whole names Q R tree [] [] i ms xs size places fits named each fresh = record { ys = xs; named = named; each = each; before = λ n below. refl; all = λ k within. absurd (omega (arith, within)) }
whole names Q R tree [] (o ∷ os) i ms xs size places fits named each fresh = absurd (omega (arith, size))
whole names Q R tree (name ∷ ns) [] i ms xs size places fits named each fresh = absurd (omega (arith, size))
whole {A} names Q R tree (name ∷ ns) (o ∷ os) i ms xs size places fits named each fresh =
    let here : place_of names name ≡ Some i = subst (λ n. place_of names name ≡ Some n) (at_zero i) (places 0 (omega arith)) in
    let fit : (a : A) → o ≡ Some a → Q (tree a) a × R (i, a) = λ a is. subst (λ n. Q (tree a) a × R (n, a)) (at_zero i) (fits 0 a (omega arith) is) in
    let one = turn names Q R tree name o i ms xs here fit named each fresh in
    let rest = whole names Q R tree ns os (suc i) (put_if tree name o ms) one.ys (omega (arith, size))
    (λ k within. subst (λ n. place_of names (get_or ns k []) ≡ Some n) (at_suc i k) (places (suc k) (omega (arith, within))))
    (λ k a within is. subst (λ n. Q (tree a) a × R (n, a)) (at_suc i k) (fits (suc k) a (omega (arith, within)) is)) one.named one.each (λ n from. one.after n (omega (arith, from))) in
    record {
      ys = rest.ys;
      named = rest.named;
      each = rest.each;
      before = λ n below. rest.before n (omega (arith, below)) ∙ one.before n below;
      all = all_of rest.ys (rest.before i (omega arith) ∙ one.now) rest.all;
    }
  where
    at_zero : (n : ℕ) → n + 0 ≡ n
    at_zero n = omega arith

    at_suc : (n k : ℕ) → n + suc k ≡ suc n + k
    at_suc n k = omega arith

    all_of : (ys : List (ℕ × A)) → given ys i ≡ o → ((k : ℕ) → k < length os → given ys (suc i + k) ≡ get_or os k None) → (k : ℕ) → k < length (o ∷ os) → given ys (i + k) ≡ get_or (o ∷ os) k None
    all_of ys first later zero within = ap (λ n. given ys n) (at_zero i) ∙ first
    all_of ys first later (suc k) within = ap (λ n. given ys n) (at_suc i k) ∙ later k (omega (arith, within))

-- ---- the names of an application

-- the name at a place is found there, where the names differ
pub place_there : (names : List (List ℕ)) (k : ℕ) → AllPairs (λ x y. x ≢ y) names → k < length names → place_of names (get_or names k []) ≡ Some k
place_there names k once within =
    let at : position_or_len (λ v. bytes_eq (get_or names k []) v) names ≡ k =
    position_or_len_is (λ v. bytes_eq (get_or names k []) v) names k [] (omega (arith, within)) (λ j below. other j below) (λ _. (bytes_eq-Decides (get_or names k []) (get_or names k [])).1 refl) in
    rw (at, (Decides-ltb k (length names)).1 within) refl
  where
    other : (j : ℕ) → j < k → bytes_eq (get_or names k []) (get_or names j []) ≡ false
    other j below = go (bytes_eq (get_or names k []) (get_or names j [])) refl
      where
        go : (b : Bool) → bytes_eq (get_or names k []) (get_or names j []) ≡ b → bytes_eq (get_or names k []) (get_or names j []) ≡ false
        go true e = absurd (once j k [] below within (sym ((bytes_eq-Decides (get_or names k []) (get_or names j [])).0 e)))
        go false e = e

pub variable_place : (P : Program) (k : ℕ) → IsFaultless P → k < length P.variables → place_of (names_in P).variables (variable_at P k).name ≡ Some k
variable_place P k faultless within =
    let names = map (λ (v : VariableOf). v.name) P.variables in
    let rest = map (λ (o : ObjectOf). o.name) P.objects ++ map (λ (a : ActorOf). a.name) P.actors in
    let at : get_or names k [] ≡ (variable_at P k).name = get_or-map (λ (v : VariableOf). v.name) P.variables k no_variable [] within in
    ap (λ t. place_of names t) (sym at) ∙ place_there names k (apart_left names rest faultless.names.once) (omega (arith, within, length-map P.variables (λ (v : VariableOf). v.name)))

pub object_place : (P : Program) (k : ℕ) → IsFaultless P → k < length P.objects → place_of (names_in P).objects (object_at P k).name ≡ Some k
object_place P k faultless within =
    let front = map (λ (v : VariableOf). v.name) P.variables in
    let names = map (λ (o : ObjectOf). o.name) P.objects in
    let rest = map (λ (a : ActorOf). a.name) P.actors in
    let at : get_or names k [] ≡ (object_at P k).name = get_or-map (λ (o : ObjectOf). o.name) P.objects k no_object [] within in
    ap (λ t. place_of names t) (sym at)
    ∙ place_there names k (apart_left names rest (apart_right front (names ++ rest) faultless.names.once)) (omega (arith, within, length-map P.objects (λ (o : ObjectOf). o.name)))

pub actor_place : (P : Program) (k : ℕ) → IsFaultless P → k < length P.actors → place_of (names_in P).actors (actor_at P k).name ≡ Some k
actor_place P k faultless within =
    let front = map (λ (v : VariableOf). v.name) P.variables in
    let before = map (λ (o : ObjectOf). o.name) P.objects in
    let names = map (λ (a : ActorOf). a.name) P.actors in
    let at : get_or names k [] ≡ (actor_at P k).name = get_or-map (λ (a : ActorOf). a.name) P.actors k no_actor [] within in
    ap (λ t. place_of names t) (sym at)
    ∙ place_there names k (apart_right before names (apart_right front (before ++ names) faultless.names.once)) (omega (arith, within, length-map P.actors (λ (a : ActorOf). a.name)))
