-- What is written for a note means the note again.
use Rattle.std.proofs.Common.{◌≡◌, ◌≢◌, ◌<◌, ◌≤◌, ◌≤ℤ◌, ◌+◌, ◌∙◌, ◌||◌, ℕ, zero, suc, ℤ, pos, negsuc, List, [], ◌∷◌, Bool, true, false, IsTrue, Option, Some, None, is_some, unwrap_or, Ordering, Less, Equal, Greater, nat_cmp, nat_eq, nat_le, cond, get_or, length, map, All, AllPairs, refl, sym, ap, subst, inl, inr, arith}
use Rattle.fr_cert.proofs.Terms.{tied_itself, slice_cmp, AllByRecursion, list_all, range_with_len, match_ordering, int_eq, false≢true, Decides-eqb, Decides-int_eq, leb_tells, nat_list_cmp_total}
use Rattle.fr_cert.proofs.Terms.{get_or-map, length-map, All-head, All-tail, exact_bytes, same_Some, Data, number, unsigned, string, array, object, Items, no_items, item, Members, no_members, member}
use Rattle.fr_cert.proofs.Terms.{put, of_integer, get_member, as_integer, get_member-put, get_member-put_other, Program, VariableOf, ObjectOf, no_variable, no_object, variable_at, IsFaultless, Kind}
use Rattle.fr_cert.proofs.Terms.{Mutex, Recursive, place_of, kind_of, Claim, NotHeld, Alive, Gone, HeldTimes, Alternative, Note, AlternativeFits, NoteFits, CanClaim, most_depth, claim_by, AreKnown}
use Rattle.fr_cert.proofs.Terms.{is_key_of, key_text, names_in, Key, Keyed, OrDefault, IsObject, IsList, EachEntry, EachMember, IsNamed, Names, AreNames, IsDepth, IsSpan, NoteText, IsNoteText}
use Rattle.fr_cert.proofs.Terms.{IsInside, count_for, has, claim_at, range_at, IsPlainNote, IsNote, range_tree, is_declared, with_named, with_count, is_alive, is_gone, is_default, with_field}
use Rattle.fr_cert.proofs.Terms.{note_tree, each_tree, version_of}
use Rattle.std.proofs.lemmas.List.FromFn.{fill_by_all}
use Rattle.std.proofs.lemmas.Bool.{and_parts, and_left, and_right, ne_eqb}
use Rattle.std.proofs.lemmas.Option.{none-some}
use Rattle.fr_cert.specs.Keys.{field}
use Rattle.fr_cert.specs.declared.key.Key.TheVariants as key
use Rattle.fr_cert.specs.declared.key.Keyed.TheVariants as place
use Rattle.fr_cert.specs.Written.{with_each, names_where, alternative_tree}
use Rattle.fr_cert.proofs.GivenLemmas.{given, put_if, put_all, whole, variable_place, object_place}

-- ---- numbers and ranges

pub integer_again : (z : ℤ) → as_integer (of_integer z) ≡ Some z
integer_again (pos n) = refl
integer_again (negsuc n) = refl

span_again : (r : ℤ × ℤ) → r.0 ≤ℤ r.1 → IsSpan (range_tree r) r
span_again r order = (
  item (number (of_integer r.0)) (item (number (of_integer r.1)) no_items),
  refl,
  record { lo = integer_again r.0; hi = integer_again r.1; only = refl; order = order },
)

at_zero : (k : ℕ) → k ≡ 0 + k
at_zero k = omega arith

at_suc : (i k : ℕ) → i + suc k ≡ suc i + k
at_suc i k = omega arith

whole_range : (lo hi : ℤ) (r : ℤ × ℤ) → lo ≡ r.0 → hi ≡ r.1 → (lo, hi) ≡ r
whole_range lo hi r p q =
    let pair : (lo, hi) ≡ (r.0, r.1) = rw (p, q) refl in
    pair

-- the range, where it is narrower than the declared one
abbrev narrow : VariableOf → ℤ × ℤ → Option (ℤ × ℤ)
narrow v r = cond (is_declared v r) None (Some r)

abbrev narrowed : List VariableOf → List (ℤ × ℤ) → List (Option (ℤ × ℤ))
narrowed [] rs = []
narrowed (v ∷ vs) [] = []
narrowed (v ∷ vs) (r ∷ rs) = narrow v r ∷ narrowed vs rs

abbrev variable_names : List VariableOf → List (List ℕ)
variable_names vs = map (λ v. v.name) vs

range_put : (v : VariableOf) (r : ℤ × ℤ) (ms : Members) → with_named v r ms ≡ put_if range_tree v.name (narrow v r) ms
range_put v r ms = go (is_declared v r)
  where
    go : (b : Bool) → cond b ms (put v.name (range_tree r) ms) ≡ put_if range_tree v.name (cond b None (Some r)) ms
    go true = refl
    go false = refl

ranges_put : (vs : List VariableOf) (rs : List (ℤ × ℤ)) (ms : Members) → with_each with_named vs rs ms ≡ put_all range_tree (variable_names vs) (narrowed vs rs) ms
unfolding with_each
ranges_put [] rs ms = refl
ranges_put (v ∷ vs) [] ms = refl
ranges_put (v ∷ vs) (r ∷ rs) ms = ranges_put vs rs (with_named v r ms) ∙ ap (put_all range_tree (variable_names vs) (narrowed vs rs)) (range_put v r ms)

narrowed_length : (vs : List VariableOf) (rs : List (ℤ × ℤ)) → length rs ≡ length vs → length (narrowed vs rs) ≡ length vs
narrowed_length [] rs size = refl
narrowed_length (v ∷ vs) [] size = absurd (omega (arith, size))
narrowed_length (v ∷ vs) (r ∷ rs) size = let rest = narrowed_length vs rs (omega (arith, size)) in omega (arith, rest)

narrowed_at : (vs : List VariableOf) (rs : List (ℤ × ℤ)) (k : ℕ) → length rs ≡ length vs → k < length vs → get_or (narrowed vs rs) k None ≡ narrow (get_or vs k no_variable) (get_or rs k (pos 0, pos 0))
narrowed_at [] rs k size within = absurd (omega (arith, within))
narrowed_at (v ∷ vs) [] k size within = absurd (omega (arith, size))
narrowed_at (v ∷ vs) (r ∷ rs) zero size within = refl
narrowed_at (v ∷ vs) (r ∷ rs) (suc k) size within = narrowed_at vs rs k (omega (arith, size)) (omega (arith, within))

narrow_some : (v : VariableOf) (r a : ℤ × ℤ) → narrow v r ≡ Some a → r ≡ a
narrow_some v r a h = go (is_declared v r) h
  where
    go : (b : Bool) → cond b None (Some r) ≡ Some a → r ≡ a
    go true e = absurd (none-some a e)
    go false e = same_Some r a e

narrow_back : (v : VariableOf) (r : ℤ × ℤ) → unwrap_or (narrow v r) (v.lo, v.hi) ≡ r
narrow_back v r = go (is_declared v r) refl
  where
    go : (b : Bool) → is_declared v r ≡ b → unwrap_or (cond b None (Some r)) (v.lo, v.hi) ≡ r
    go true e =
        let ends = and_parts (int_eq v.lo r.0) (int_eq v.hi r.1) e in
        whole_range v.lo v.hi r ((Decides-int_eq v.lo r.0).0 ends.0) ((Decides-int_eq v.hi r.1).0 ends.1)
    go false e = refl

-- the ranges that the object gives are those of the alternative
record RangesBack (P : Program) (n : Alternative) : Type 0 where
  ys : List (ℕ × (ℤ × ℤ))
  named : EachMember (IsNamed (names_in P).variables IsSpan) (with_each with_named P.variables n.ranges no_members) ys
  each : AllByRecursion (IsInside P) ys
  back : (k : ℕ) → k < length P.variables → range_at P ys k ≡ get_or n.ranges k (pos 0, pos 0)

ranges_back : (P : Program) (n : Alternative) → IsFaultless P → AlternativeFits P n → RangesBack P n
ranges_back P n faultless fits =
    let names = (names_in P).variables in
    let ns = variable_names P.variables in
    let os = narrowed P.variables n.ranges in
    let size : length os ≡ length ns = narrowed_length P.variables n.ranges fits.ranges.0 ∙ sym (length-map P.variables (λ (v : VariableOf). v.name)) in
    let in_variables : (k : ℕ) → k < length ns → k < length P.variables = λ k within. omega (arith, within, length-map P.variables (λ (v : VariableOf). v.name)) in
    let all = whole names IsSpan (IsInside P) range_tree ns os 0 no_members [] size
    (λ k within. ap (λ t. place_of names t) (get_or-map (λ (v : VariableOf). v.name) P.variables k no_variable [] (in_variables k within)) ∙ (variable_place P k faultless (in_variables k within) ∙ ap Some (at_zero k)))
    (λ k a within is. fit k a (in_variables k within) (sym (narrowed_at P.variables n.ranges k fits.ranges.0 (in_variables k within)) ∙ is)) tt tt (λ k from. refl) in
    record {
      ys = all.ys;
      named = subst (λ ms. EachMember (IsNamed (names_in P).variables IsSpan) ms all.ys) (sym (ranges_put P.variables n.ranges no_members)) all.named;
      each = all.each;
      back = λ k within.
          let found : given all.ys k ≡ narrow (variable_at P k) (get_or n.ranges k (pos 0, pos 0)) =
          ap (given all.ys) (at_zero k) ∙ (all.all k (omega (arith, within, narrowed_length P.variables n.ranges fits.ranges.0)) ∙ narrowed_at P.variables n.ranges k fits.ranges.0 within) in
          ap (λ o. unwrap_or o ((variable_at P k).lo, (variable_at P k).hi)) found ∙ narrow_back (variable_at P k) (get_or n.ranges k (pos 0, pos 0));
    }
  where
    fit : (k : ℕ) (a : ℤ × ℤ) → k < length P.variables → narrow (variable_at P k) (get_or n.ranges k (pos 0, pos 0)) ≡ Some a → IsSpan (range_tree a) a × IsInside P (0 + k, a)
    fit k a within is =
        let same : get_or n.ranges k (pos 0, pos 0) ≡ a = narrow_some (variable_at P k) (get_or n.ranges k (pos 0, pos 0)) a is in
        let order : a.0 ≤ℤ a.1 = subst (λ r. r.0 ≤ℤ r.1) same (fits.order k) in
        let inside : ((variable_at P k).lo ≤ℤ a.0) × (a.1 ≤ℤ (variable_at P k).hi) = subst (λ r. ((variable_at P k).lo ≤ℤ r.0) × (r.1 ≤ℤ (variable_at P k).hi)) same (fits.ranges.1 k) in
        (span_again a order, subst (λ m. IsInside P (m, a)) (at_zero k) (within, inside.0, inside.1))

-- ---- counts

-- the count, where the object is held
abbrev count_of : Claim → Option ℕ
count_of (HeldTimes count) = Some count
count_of claim = None

abbrev count_tree : ℕ → Data
count_tree count = number (unsigned count)

abbrev object_names : List ObjectOf → List (List ℕ)
object_names os = map (λ o. o.name) os

count_put : (o : ObjectOf) (c : Claim) (ms : Members) → with_count o c ms ≡ put_if count_tree o.name (count_of c) ms
count_put o (HeldTimes count) ms = refl
count_put o NotHeld ms = refl
count_put o Alive ms = refl
count_put o Gone ms = refl

counts_put : (os : List ObjectOf) (cs : List Claim) (ms : Members) → with_each with_count os cs ms ≡ put_all count_tree (object_names os) (map count_of cs) ms
unfolding with_each
counts_put [] cs ms = refl
counts_put (o ∷ os) [] ms = refl
counts_put (o ∷ os) (c ∷ cs) ms = counts_put os cs (with_count o c ms) ∙ ap (put_all count_tree (object_names os) (map count_of cs)) (count_put o c ms)

count_some : (c : Claim) (a : ℕ) → count_of c ≡ Some a → c ≡ HeldTimes a
count_some (HeldTimes count) a h = ap HeldTimes (same_Some count a h)
count_some NotHeld a h = absurd (none-some a h)
count_some Alive a h = absurd (none-some a h)
count_some Gone a h = absurd (none-some a h)

count_small : (kind : Kind) (a : ℕ) → CanClaim kind (HeldTimes a) → a ≤ most_depth
count_small Mutex a h = omega (arith, h)
count_small Recursive a h = h.1
count_small kind a h = absurd h

-- an object that an actor can hold so often
abbrev CanBeHeld : Program → ℕ × ℕ → Type 0
CanBeHeld P h = (h.0 < length P.objects) × CanClaim (kind_of P h.0) (HeldTimes h.1)

-- the counts that the object gives are those of the alternative
record CountsBack (P : Program) (n : Alternative) : Type 0 where
  ys : List (ℕ × ℕ)
  named : EachMember (IsNamed (names_in P).objects IsDepth) (with_each with_count P.objects n.claims no_members) ys
  each : AllByRecursion (CanBeHeld P) ys
  back : (k : ℕ) → k < length P.objects → count_for ys k ≡ count_of (get_or n.claims k NotHeld)

counts_back : (P : Program) (n : Alternative) → IsFaultless P → AlternativeFits P n → CountsBack P n
counts_back P n faultless fits =
    let names = (names_in P).objects in
    let ns = object_names P.objects in
    let os = map count_of n.claims in
    let size : length os ≡ length ns = length-map n.claims count_of ∙ (fits.claims.0 ∙ sym (length-map P.objects (λ (o : ObjectOf). o.name))) in
    let in_objects : (k : ℕ) → k < length ns → k < length P.objects = λ k within. omega (arith, within, length-map P.objects (λ (o : ObjectOf). o.name)) in
    let all = whole names IsDepth (CanBeHeld P) count_tree ns os 0 no_members [] size
    (λ k within. ap (λ t. place_of names t) (get_or-map (λ (o : ObjectOf). o.name) P.objects k no_object [] (in_objects k within)) ∙ (object_place P k faultless (in_objects k within) ∙ ap Some (at_zero k)))
    (λ k a within is. fit k a (in_objects k within) (sym (count_at k (in_objects k within)) ∙ is)) tt tt (λ k from. refl) in
    record {
      ys = all.ys;
      named = subst (λ ms. EachMember (IsNamed (names_in P).objects IsDepth) ms all.ys) (sym (counts_put P.objects n.claims no_members)) all.named;
      each = all.each;
      back = λ k within. ap (given all.ys) (at_zero k) ∙ (all.all k (omega (arith, within, length-map n.claims count_of, fits.claims.0)) ∙ count_at k within);
    }
  where
    count_at : (k : ℕ) → k < length P.objects → get_or (map count_of n.claims) k None ≡ count_of (get_or n.claims k NotHeld)
    count_at k within = get_or-map count_of n.claims k NotHeld None (omega (arith, within, fits.claims.0))

    fit : (k : ℕ) (a : ℕ) → k < length P.objects → count_of (get_or n.claims k NotHeld) ≡ Some a → IsDepth (count_tree a) a × CanBeHeld P (0 + k, a)
    fit k a within is =
        let claim : CanClaim (kind_of P k) (HeldTimes a) = subst (CanClaim (kind_of P k)) (count_some (get_or n.claims k NotHeld) a is) (fits.claims.1 k) in
        ((refl, count_small (kind_of P k) a claim), subst (λ m. CanBeHeld P (m, a)) (at_zero k) (within, claim))

-- ---- lists of names

-- the numbers, from this one on, of the objects whose claims pass the test
abbrev numbers : (Claim → Bool) → ℕ → List Claim → List ℕ
numbers test i [] = []
numbers test i (c ∷ cs) = cond (test c) (i ∷ numbers test (suc i) cs) (numbers test (suc i) cs)

names_again : (names : List (List ℕ)) (test : Claim → Bool) (os : List ObjectOf) (cs : List Claim) (i : ℕ) → length cs ≡ length os → ((k : ℕ) → k < length os → place_of names (get_or os k no_object).name ≡ Some (i + k))
    → EachEntry (Names names) (names_where test os cs) (numbers test i cs)
unfolding names_where
names_again names test [] [] i size places = tt
names_again names test [] (c ∷ cs) i size places = absurd (omega (arith, size))
names_again names test (o ∷ os) [] i size places = absurd (omega (arith, size))
names_again names test (o ∷ os) (c ∷ cs) i size places =
    go (test c) (names_again names test os cs (suc i) (omega (arith, size)) (λ k within. subst (λ n. place_of names (get_or os k no_object).name ≡ Some n) (at_suc i k) (places (suc k) (omega (arith, within)))))
  where
    here : place_of names o.name ≡ Some i
    here = subst (λ n. place_of names o.name ≡ Some n) (omega arith) (places 0 (omega arith))

    go : (b : Bool) → EachEntry (Names names) (names_where test os cs) (numbers test (suc i) cs)
        → EachEntry (Names names) (cond b (item (string o.name) (names_where test os cs)) (names_where test os cs)) (cond b (i ∷ numbers test (suc i) cs) (numbers test (suc i) cs))
    go true rest = ((o.name, refl, here), rest)
    go false rest = rest

-- the numbers rise, from this one on
abbrev Rises : ℕ → List ℕ → Type 0
Rises least [] = Unit {0}
Rises least (n ∷ ns) = (least ≤ n) × Rises (suc n) ns

rises_lower : (ns : List ℕ) (least : ℕ) → Rises (suc least) ns → Rises least ns
rises_lower [] least h = tt
rises_lower (n ∷ ns) least h = (omega (arith, h.0), h.1)

numbers_rise : (test : Claim → Bool) (i : ℕ) (cs : List Claim) → Rises i (numbers test i cs)
numbers_rise test i [] = tt
numbers_rise test i (c ∷ cs) = go (test c) (numbers_rise test (suc i) cs)
  where
    go : (b : Bool) → Rises (suc i) (numbers test (suc i) cs) → Rises i (cond b (i ∷ numbers test (suc i) cs) (numbers test (suc i) cs))
    go true rest = (omega arith, rest)
    go false rest = rises_lower (numbers test (suc i) cs) i rest

at_least : (ns : List ℕ) (least k d : ℕ) → Rises least ns → k < length ns → least ≤ get_or ns k d
at_least [] least k d h within = absurd (omega (arith, within))
at_least (n ∷ ns) least zero d h within = h.0
at_least (n ∷ ns) least (suc k) d h within = let rest = at_least ns (suc n) k d h.1 (omega (arith, within)) in omega (arith, rest, h.0)

rising_apart : (ns : List ℕ) (least : ℕ) → Rises least ns → (i j d : ℕ) → i < j → j < length ns → get_or ns i d ≢ get_or ns j d
rising_apart [] least h i j d less within = absurd (omega (arith, within))
rising_apart (n ∷ ns) least h i zero d less within = absurd (omega (arith, less))
rising_apart (n ∷ ns) least h zero (suc j) d less within = λ same. let rest = at_least ns (suc n) j d h.1 (omega (arith, within)) in omega (arith, rest, same)
rising_apart (n ∷ ns) least h (suc i) (suc j) d less within = rising_apart ns (suc n) h.1 i j d (omega (arith, less)) (omega (arith, within))

none_below : (ns : List ℕ) (least o : ℕ) → Rises least ns → o < least → has ns o ≡ false
none_below [] least o h less = refl
none_below (n ∷ ns) least o h less = go (nat_eq n o) refl (none_below ns (suc n) o h.1 (omega (arith, h.0, less)))
  where
    go : (b : Bool) → nat_eq n o ≡ b → has ns o ≡ false → (b || has ns o) ≡ false
    go true e rest = let same = (Decides-eqb n o).0 e in absurd (omega (arith, same, h.0, less))
    go false e rest = rest

numbers_have : (test : Claim → Bool) (i k : ℕ) (cs : List Claim) → k < length cs → has (numbers test i cs) (i + k) ≡ test (get_or cs k NotHeld)
numbers_have test i k [] within = absurd (omega (arith, within))
numbers_have test i zero (c ∷ cs) within = go (test c)
  where
    go : (b : Bool) → has (cond b (i ∷ numbers test (suc i) cs) (numbers test (suc i) cs)) (i + 0) ≡ b
    go true = ap (λ b. b || has (numbers test (suc i) cs) (i + 0)) ((Decides-eqb i (i + 0)).1 (omega arith))
    go false = none_below (numbers test (suc i) cs) (suc i) (i + 0) (numbers_rise test (suc i) cs) (omega arith)
numbers_have test i (suc k) (c ∷ cs) within = go (test c) (ap (has (numbers test (suc i) cs)) (at_suc i k) ∙ numbers_have test (suc i) k cs (omega (arith, within)))
  where
    go : (b : Bool) → has (numbers test (suc i) cs) (i + suc k) ≡ test (get_or cs k NotHeld) → has (cond b (i ∷ numbers test (suc i) cs) (numbers test (suc i) cs)) (i + suc k) ≡ test (get_or cs k NotHeld)
    go true rest = ap (λ b. b || has (numbers test (suc i) cs) (i + suc k)) (ne_eqb i (i + suc k) (λ same. omega (arith, same))) ∙ rest
    go false rest = rest

-- what holds of each object whose claim passes holds of each number
numbers_each : (Q : ℕ → Type 0) (test : Claim → Bool) (i : ℕ) (cs : List Claim) → ((k : ℕ) → k < length cs → test (get_or cs k NotHeld) ≡ true → Q (i + k)) → AllByRecursion Q (numbers test i cs)
numbers_each Q test i [] h = tt
numbers_each Q test i (c ∷ cs) h = go (test c) refl (numbers_each Q test (suc i) cs (λ k within is. subst Q (at_suc i k) (h (suc k) (omega (arith, within)) is)))
  where
    go : (b : Bool) → test c ≡ b → AllByRecursion Q (numbers test (suc i) cs) → AllByRecursion Q (cond b (i ∷ numbers test (suc i) cs) (numbers test (suc i) cs))
    go true is rest = (subst Q (omega arith) (h 0 (omega arith) is), rest)
    go false is rest = rest

lists_names : (P : Program) (n : Alternative) (test : Claim → Bool) → IsFaultless P → AlternativeFits P n → AreNames (names_in P).objects (names_where test P.objects n.claims) (numbers test 0 n.claims)
lists_names P n test faultless fits = (
  names_again (names_in P).objects test P.objects n.claims 0 fits.claims.0 (λ k within. object_place P k faultless within ∙ ap Some (at_zero k)),
  rising_apart (numbers test 0 n.claims) 0 (numbers_rise test 0 n.claims),
)

-- ---- claims from their parts

back : (c : Claim) → claim_by (count_of c) (cond (is_gone c) Gone (cond (is_alive c) Alive NotHeld)) ≡ c
back (HeldTimes count) = refl
back NotHeld = refl
back Alive = refl
back Gone = refl

made_claim : (c : Claim) (a : Option ℕ) (g l : Bool) → a ≡ count_of c → g ≡ is_gone c → l ≡ is_alive c → claim_by a (cond g Gone (cond l Alive NotHeld)) ≡ c
made_claim c a g l p q r = rw (p, q, r) (back c)

-- what is dead is neither live nor held
gone_alone : (c : Claim) → is_gone c ≡ true → (is_alive c || is_some (count_of c)) ≡ false
gone_alone (HeldTimes count) h = absurd (false≢true h)
gone_alone NotHeld h = absurd (false≢true h)
gone_alone Alive h = absurd (false≢true h)
gone_alone Gone h = refl

not_both : (c : Claim) (l : Bool) (a : Option ℕ) → is_gone c ≡ true → l ≡ is_alive c → a ≡ count_of c → IsTrue (l || is_some a) → ⊥
not_both c l a gone p q t =
    let same : (l || is_some a) ≡ (is_alive c || is_some (count_of c)) = rw (p, q) refl in
    false≢true (sym (same ∙ gone_alone c gone) ∙ t)

-- ---- keys that may be missing

-- the keys, each unless it holds the default
abbrev fields : List (Key × Data) → Members
fields [] = no_members
fields (x ∷ xs) = with_field x.0 x.1 (fields xs)

-- what is found at a key, by its order to one of them and whether that one holds the default
abbrev by : Ordering → Bool → Data → Option Data → Option Data
by Less b d rest = rest
by Equal true d rest = rest
by Equal false d rest = Some d
by Greater b d rest = rest

abbrev found_in : Key → List (Key × Data) → Option Data
found_in k [] = None
found_in k (x ∷ xs) = by (slice_cmp nat_cmp (key_text k) (key_text x.0)) (is_default x.1) x.1 (found_in k xs)

-- what was put at a text that doesn't compare equal isn't found
put_other : (s t : List ℕ) (o : Ordering) (d : Data) (ms : Members) → slice_cmp nat_cmp s t ≡ o → (Equal ≡ o → ⊥) → get_member s (put t d ms) ≡ get_member s ms
put_other s t o d ms is other = get_member-put_other s t d ms (λ same. other (sym (tied_itself nat_list_cmp_total s) ∙ (ap (slice_cmp nat_cmp s) same ∙ is)))

found : (k : Key) (xs : List (Key × Data)) → field k (fields xs) ≡ found_in k xs
unfolding field
found k [] = refl
found k (x ∷ xs) = go (slice_cmp nat_cmp (key_text k) (key_text x.0)) (is_default x.1) refl (found k xs)
  where
    go : (o : Ordering) (b : Bool) → slice_cmp nat_cmp (key_text k) (key_text x.0) ≡ o → get_member (key_text k) (fields xs) ≡ found_in k xs → get_member (key_text k) (cond b (fields xs) (put (key_text x.0) x.1 (fields xs))) ≡ by o b x.1 (found_in k xs)
    go Less true is rest = rest
    go Less false is rest = put_other (key_text k) (key_text x.0) Less x.1 (fields xs) is (λ e. cc) ∙ rest
    go Equal true is rest = rest
    go Equal false is rest =
        ap (λ t. get_member t (put (key_text x.0) x.1 (fields xs))) (exact_bytes (key_text k) (key_text x.0) is) ∙ get_member-put (key_text x.0) x.1 (fields xs)
    go Greater true is rest = rest
    go Greater false is rest = put_other (key_text k) (key_text x.0) Greater x.1 (fields xs) is (λ e. cc) ∙ rest

depth_found : (n : ℕ) → n ≤ most_depth → OrDefault 0 IsDepth (by Equal (nat_eq n 0) (number (unsigned n)) None) n
depth_found n small = go (nat_eq n 0) refl
  where
    go : (b : Bool) → nat_eq n 0 ≡ b → OrDefault 0 IsDepth (by Equal b (number (unsigned n)) None) n
    go true e = (Decides-eqb n 0).0 e
    go false e = (refl, small)

list_found : {A : Type 0} (M : Data → A → Type 0) (R : A → A → Type 0) (ds : Items) (xs : List A) → EachEntry M ds xs × AllPairs R xs
    → OrDefault [] (IsList (λ es ys. EachEntry M es ys × AllPairs R ys)) (by Equal (is_default (array ds)) (array ds) None) xs
list_found M R no_items [] h = refl
list_found M R no_items (x ∷ xs) h = absurd h.0
list_found M R (item d ds) xs h = (item d ds, refl, h)

object_found : {A : Type 0} (M : List ℕ → Data → A → Type 0) (os : Members) (xs : List A) → EachMember M os xs → OrDefault [] (IsObject (EachMember M)) (by Equal (is_default (object os)) (object os) None) xs
object_found M no_members [] h = refl
object_found M no_members (x ∷ xs) h = absurd h
object_found M (member name d more) xs h = (member name d more, refl, h)

pub known_more : (p : Keyed) (l : List ℕ) (e : Data) (ms : Members) → IsTrue (is_key_of p l) → AreKnown p ms → AreKnown p (member l e ms)
known_more p l e ms known rest k d found =
    elim (slice_cmp nat_cmp k l) as (λ o. o ≡ slice_cmp nat_cmp k l → match_ordering o (get_member k ms) (Some e) (get_member k ms) ≡ Some d → IsTrue (is_key_of p k)) [
      | Less ↦ λ _ more. rest k d more
      | Equal ↦ λ same _. subst (λ t. IsTrue (is_key_of p t)) (sym (exact_bytes k l (sym same))) known
      | Greater ↦ λ _ more. rest k d more
    ] refl found

pub none_known : (p : Keyed) → AreKnown p no_members
none_known p k d found = cc

known_put : (p : Keyed) (l : List ℕ) (e : Data) (ms : Members) → IsTrue (is_key_of p l) → AreKnown p ms → AreKnown p (put l e ms)
known_put p l e ms known rest k d at = go (slice_cmp nat_cmp k l) refl
  where
    go : (o : Ordering) → slice_cmp nat_cmp k l ≡ o → IsTrue (is_key_of p k)
    go Less is = rest k d (sym (put_other k l Less e ms is (λ e. cc)) ∙ at)
    go Equal is = subst (λ t. IsTrue (is_key_of p t)) (sym (exact_bytes k l is)) known
    go Greater is = rest k d (sym (put_other k l Greater e ms is (λ e. cc)) ∙ at)

known_fields : (p : Keyed) (xs : List (Key × Data)) → AllByRecursion (λ x. IsTrue (is_key_of p (key_text x.0))) xs → AreKnown p (fields xs)
known_fields p [] h = none_known p
known_fields p (x ∷ xs) h = go (is_default x.1) (known_fields p xs h.1)
  where
    go : (b : Bool) → AreKnown p (fields xs) → AreKnown p (cond b (fields xs) (put (key_text x.0) x.1 (fields xs)))
    go true rest = rest
    go false rest = known_put p (key_text x.0) x.1 (fields xs) h.0 rest

-- ---- an alternative

-- the six keys
abbrev six : ℕ → Items → Members → Items → Members → ℕ → List (Key × Data)
six crit dead held live ranges susp =
    (key.Crit, number (unsigned crit)) ∷ (key.Dead, array dead) ∷ (key.Held, object held) ∷ (key.Live, array live) ∷ (key.Range, object ranges) ∷ (key.Susp, number (unsigned susp)) ∷ []

text_again : (P : Program) (text : NoteText) (dead : Items) (held : Members) (live : Items) (ranges : Members) → text.crit ≤ most_depth → text.susp ≤ most_depth
    → AreNames (names_in P).objects dead text.dead → EachMember (IsNamed (names_in P).objects IsDepth) held text.held → AreNames (names_in P).objects live text.live → EachMember (IsNamed (names_in P).variables IsSpan) ranges text.ranges
    → IsNoteText (names_in P) (fields (six text.crit dead held live ranges text.susp)) text
text_again P text dead held live ranges crit_small susp_small is_dead is_held is_live is_ranges =
    let N = names_in P in
    let all = six text.crit dead held live ranges text.susp in
    let differ = λ (x y : ℕ). x ≢ y in
    record {
      only = known_fields place.Note all (refl, (refl, (refl, (refl, (refl, (refl, tt))))));
      crit = subst (λ o. OrDefault 0 IsDepth o text.crit) (sym (found key.Crit all)) (depth_found text.crit crit_small);
      dead = subst (λ o. OrDefault [] (IsList (AreNames N.objects)) o text.dead) (sym (found key.Dead all)) (list_found (Names N.objects) differ dead text.dead is_dead);
      held = subst (λ o. OrDefault [] (IsObject (EachMember (IsNamed N.objects IsDepth))) o text.held) (sym (found key.Held all)) (object_found (IsNamed N.objects IsDepth) held text.held is_held);
      live = subst (λ o. OrDefault [] (IsList (AreNames N.objects)) o text.live) (sym (found key.Live all)) (list_found (Names N.objects) differ live text.live is_live);
      ranges = subst (λ o. OrDefault [] (IsObject (EachMember (IsNamed N.variables IsSpan))) o text.ranges) (sym (found key.Range all)) (object_found (IsNamed N.variables IsSpan) ranges text.ranges is_ranges);
      susp = subst (λ o. OrDefault 0 IsDepth o text.susp) (sym (found key.Susp all)) (depth_found text.susp susp_small);
    }

all_again : {A : Type 0} (Q : A → Type 0) (xs : List A) → AllByRecursion Q xs → All Q xs
all_again Q [] h k d within = absurd (omega (arith, within))
all_again Q (x ∷ xs) h zero d within = h.0
all_again Q (x ∷ xs) h (suc k) d within = all_again Q xs h.1 k d (omega (arith, within))

abbrev made : ℕ → ℕ → List Claim → List (ℤ × ℤ) → Alternative
made c s claims ranges = record { critical = c; suspended = s; claims = claims; ranges = ranges }

made_same : (c s : ℕ) (k l : List Claim) (r t : List (ℤ × ℤ)) → k ≡ l → r ≡ t → made c s k r ≡ made c s l t
made_same c s k l r t p q = rw (p, q) refl

abbrev text_made : List (ℕ × ℕ) → ℕ → ℕ → List ℕ → List ℕ → List (ℕ × (ℤ × ℤ)) → NoteText
text_made held crit susp live dead ranges = record { held = held; crit = crit; susp = susp; live = live; dead = dead; ranges = ranges }

pub alternative_again : (P : Program) (n : Alternative) → IsFaultless P → AlternativeFits P n → IsPlainNote P (alternative_tree P n) n
unfolding alternative_tree
alternative_again P n faultless fits =
    let ranges = ranges_back P n faultless fits in
    let counts = counts_back P n faultless fits in
    let live = numbers is_alive 0 n.claims in
    let dead = numbers is_gone 0 n.claims in
    let text = text_made counts.ys n.critical n.suspended live dead ranges.ys in
    let in_claims : (k : ℕ) → k < length P.objects → k < length n.claims = λ k within. omega (arith, within, fits.claims.0) in
    let is_live : (k : ℕ) → k < length P.objects → has live k ≡ is_alive (get_or n.claims k NotHeld) = λ k within. ap (has live) (at_zero k) ∙ numbers_have is_alive 0 k n.claims (in_claims k within) in
    let is_dead : (k : ℕ) → k < length P.objects → has dead k ≡ is_gone (get_or n.claims k NotHeld) = λ k within. ap (has dead) (at_zero k) ∙ numbers_have is_gone 0 k n.claims (in_claims k within) in
    let claims : n.claims ≡ map (claim_at text) (range_with_len 0 (length P.objects)) =
    fill_by_all (claim_at text) n.claims (length P.objects) NotHeld fits.claims.0
    (λ k within. sym (made_claim (get_or n.claims k NotHeld) (count_for counts.ys k) (has dead k) (has live k) (counts.back k within) (is_dead k within) (is_live k within))) in
    let spans : n.ranges ≡ map (range_at P ranges.ys) (range_with_len 0 (length P.variables)) =
    fill_by_all (range_at P ranges.ys) n.ranges (length P.variables) (pos 0, pos 0) fits.ranges.0 (λ k within. sym (ranges.back k within)) in
    let apart : AllByRecursion (λ o. IsTrue (has live o || is_some (count_for counts.ys o)) → ⊥) dead =
    numbers_each (λ o. IsTrue (has live o || is_some (count_for counts.ys o)) → ⊥) is_gone 0 n.claims
    (λ k within gone. subst (λ o. IsTrue (has live o || is_some (count_for counts.ys o)) → ⊥) (at_zero k)
    (not_both (get_or n.claims k NotHeld) (has live k) (count_for counts.ys k) gone (is_live k (omega (arith, within, fits.claims.0))) (counts.back k (omega (arith, within, fits.claims.0))))) in (
      fields (six n.critical (names_where is_gone P.objects n.claims) (with_each with_count P.objects n.claims no_members) (names_where is_alive P.objects n.claims) (with_each with_named P.variables n.ranges no_members) n.suspended),
      refl,
      (
        text,
        text_again P text (names_where is_gone P.objects n.claims) (with_each with_count P.objects n.claims no_members) (names_where is_alive P.objects n.claims) (with_each with_named P.variables n.ranges no_members) fits.critical fits.suspended
            (lists_names P n is_gone faultless fits) counts.named (lists_names P n is_alive faultless fits) ranges.named,
        record {
          held = all_again (CanBeHeld P) counts.ys counts.each;
          apart = all_again (λ o. IsTrue (has live o || is_some (count_for counts.ys o)) → ⊥) dead apart;
          ranges = all_again (IsInside P) ranges.ys ranges.each;
        },
        made_same n.critical n.suspended n.claims _ n.ranges _ claims spans,
      ),
    )

-- ---- notes

alternatives_again : (P : Program) (note : Note) → IsFaultless P → All (λ n. AlternativeFits P n) note → EachEntry (IsPlainNote P) (each_tree (alternative_tree P) note) note
alternatives_again P [] faultless fits = tt
alternatives_again P (n ∷ more) faultless fits = (
  alternative_again P n faultless (All-head (λ m. AlternativeFits P m) n more fits),
  alternatives_again P more faultless (All-tail (λ m. AlternativeFits P m) n more fits),
)

-- whether the note has one alternative at the most
abbrev is_short : Note → Bool
is_short note = nat_le (length note) 1

is_long : (note : Note) → 2 ≤ length note → is_short note ≡ false
is_long note h = elim (leb_tells (length note) 1) [ inl small ↦ absurd (omega (arith, small.1, h)) | inr big ↦ big.0 ]

note_again : (P : Program) (version : ℕ) (note : Note) → IsFaultless P → NoteFits P note → (is_short note ≡ false → version ≡ 2) → IsNote P version (note_tree P note) note
note_again P version [] faultless fits two = inl (refl, refl)
note_again P version (n ∷ []) faultless fits two = inr (inl (n, alternative_again P n faultless (All-head (λ m. AlternativeFits P m) n [] fits.1), refl))
note_again P version (n ∷ m ∷ more) faultless fits two =
    inr (inr (two (is_long (n ∷ m ∷ more) (omega arith)), (each_tree (alternative_tree P) (n ∷ m ∷ more), refl, alternatives_again P (n ∷ m ∷ more) faultless fits.1), omega arith, fits.0))

each_again : (P : Program) (version : ℕ) (notes : List Note) → IsFaultless P → All (λ note. NoteFits P note) notes → (list_all is_short notes ≡ false → version ≡ 2) → EachEntry (IsNote P version) (each_tree (note_tree P) notes) notes
each_again P version [] faultless fits two = tt
each_again P version (note ∷ notes) faultless fits two = (
  note_again P version note faultless (All-head (λ m. NoteFits P m) note notes fits) (λ long. two (and_left (is_short note) (list_all is_short notes) long)),
  each_again P version notes faultless (All-tail (λ m. NoteFits P m) note notes fits) (λ long. two (and_right (is_short note) (list_all is_short notes) long)),
)

pub notes_again : (P : Program) (notes : List Note) → IsFaultless P → All (λ note. NoteFits P note) notes → EachEntry (IsNote P (version_of notes)) (each_tree (note_tree P) notes) notes
notes_again P notes faultless fits = each_again P (version_of notes) notes faultless fits (λ long. rw long refl)
