-- The values of a turn: lists that rise by actor, and what the tests over the entries of a map show.
use Rattle.std.proofs.Common.{◌≡◌, ◌<◌, ◌↔◌, ◌||◌, ◌&&◌, ◌≤ℤ◌, ℕ, ℤ, pos, negsuc, T, zero, suc, List, [], ◌∷◌, Bool, true, false, not, IsTrue, Some, None, All, cond, nat_eq, nat_lt, length, get_or, map, Ordering, Less, refl, sym, ap, ◌∙◌, subst, arith}
use Rattle.std.specs.List.{list_all}
use Rattle.std.specs.List.Sorted.{IsStrictlySortedBy}
use Rattle.std.specs.Map.{keys_of, lookup}
use Rattle.std.specs.Ordering.{int_eq}
use Rattle.std.specs.Int.Signed.{le_z, le_z_yes}
use Rattle.std.proofs.lemmas.Bool.{false≢true, and_parts}
use Rattle.std.proofs.lemmas.Bool.Decides.{Decides-eqb, Decides-int_eq, Decides-ltb}
use Rattle.std.proofs.lemmas.Int.{ints}
use Rattle.std.proofs.lemmas.List.{get_or-map, length-map}
use Rattle.std.proofs.lemmas.List.Elements.{All-head, All-tail, All-cons, All-nil}
use Rattle.std.proofs.lemmas.Map.Keys.{Less-from_sorted}
use Rattle.std.proofs.lemmas.Option.{same_Some}
use Rattle.fr_program.specs.Limits.{IsNumber}
use Rattle.fr_program.specs.Program.{Program}
use Rattle.fr_program.specs.declared.ids.ActorId.{ActorId}
use Rattle.fr_ends.specs.Guard.{Turn}
use Rattle.fr_ends.specs.Certificate.{value_for, HasDistinctTurns}
use Rattle.fr_ends.specs.Fits.{AreRising, GuardFits}
use Rattle.fr_ends.specs.Tests.{is_number, is_turn_value, are_turn_values, is_value_of, are_distinct}
use Rattle.fr_ends.specs.View.{value_of}

-- ---- the value of an actor in a list that rises by actor

-- the list rises, from this actor on
abbrev pub RisesFrom : ℕ → List (ℕ × ℤ) → Type 0
RisesFrom least [] = Unit {0}
RisesFrom least (v ∷ vs) = (least < suc v.0) × RisesFrom (suc v.0) vs

pub rises : (vs : List (ℕ × ℤ)) (least : ℕ) → AreRising vs → ((k : ℕ) (d : ℕ × ℤ) → k < length vs → least < suc (get_or vs k d).0) → RisesFrom least vs
rises [] least h from = tt
rises (v ∷ vs) least h from = (
  from 0 v (omega arith),
  rises vs (suc v.0) (λ i j d less within. h (suc i) (suc j) d (omega (arith, less)) (omega (arith, within)))
      (λ k d within. let above : v.0 < (get_or vs k d).0 = h 0 (suc k) d (omega arith) (omega (arith, within)) in omega (arith, above)),
)

pub rises_whole : (vs : List (ℕ × ℤ)) → AreRising vs → RisesFrom 0 vs
rises_whole vs h = rises vs 0 h (λ k d within. omega arith)

pub none_below : (vs : List (ℕ × ℤ)) (least a : ℕ) → RisesFrom least vs → a < least → value_for vs a ≡ None
none_below [] least a h less = refl
none_below (v ∷ vs) least a h less = go (nat_eq v.0 a) refl (none_below vs (suc v.0) a h.1 (omega (arith, h.0, less)))
  where
    go : (b : Bool) → nat_eq v.0 a ≡ b → value_for vs a ≡ None → cond b (Some v.1) (value_for vs a) ≡ None
    go true e rest = let same = (Decides-eqb v.0 a).0 e in absurd (omega (arith, same, h.0, less))
    go false e rest = rest

pub first_value : (v : ℕ × ℤ) (vs : List (ℕ × ℤ)) → value_for (v ∷ vs) v.0 ≡ Some v.1
first_value v vs = ap (λ b. cond b (Some v.1) (value_for vs v.0)) ((Decides-eqb v.0 v.0).1 refl)

pub later_value : (v : ℕ × ℤ) (vs : List (ℕ × ℤ)) (a : ℕ) → (v.0 ≡ a → ⊥) → value_for (v ∷ vs) a ≡ value_for vs a
later_value v vs a other = go (nat_eq v.0 a) refl
  where
    go : (b : Bool) → nat_eq v.0 a ≡ b → cond b (Some v.1) (value_for vs a) ≡ value_for vs a
    go true e = absurd (other ((Decides-eqb v.0 a).0 e))
    go false e = refl

-- from this actor on a value is of this actor or of a later one
from_least : (vs : List (ℕ × ℤ)) (least k : ℕ) (d : ℕ × ℤ) → RisesFrom least vs → k < length vs → least < suc (get_or vs k d).0
from_least [] least k d h within = absurd (omega (arith, within))
from_least (v ∷ vs) least zero d h within = h.0
from_least (v ∷ vs) least (suc k) d h within = let later = from_least vs (suc v.0) k d h.1 (omega (arith, within)) in omega (arith, later, h.0)

-- the value at a place is its actor's
pub value_at : (vs : List (ℕ × ℤ)) (least k : ℕ) (d : ℕ × ℤ) → RisesFrom least vs → k < length vs → value_for vs (get_or vs k d).0 ≡ Some (get_or vs k d).1
value_at [] least k d h within = absurd (omega (arith, within))
value_at (v ∷ vs) least zero d h within = first_value v vs
value_at (v ∷ vs) least (suc k) d h within =
    let above = from_least vs (suc v.0) k d h.1 (omega (arith, within)) in
    later_value v vs (get_or vs k d).0 (λ same. absurd (omega (arith, above, same))) ∙ value_at vs (suc v.0) k d h.1 (omega (arith, within))

-- a value that is found is at a place
pub Found : List (ℕ × ℤ) → ℕ → ℤ → Type 0
Found vs a v = (k : ℕ) × (k < length vs) × ((d : ℕ × ℤ) → (get_or vs k d).0 ≡ a) × ((d : ℕ × ℤ) → (get_or vs k d).1 ≡ v)

pub found : (vs : List (ℕ × ℤ)) (a : ℕ) (v : ℤ) → value_for vs a ≡ Some v → Found vs a v
unfolding Found
found [] a v e = absurd (none_is_none v e)
  where
    none_is_none : (w : ℤ) → None ≡ Some w → ⊥
    none_is_none w h = cc
found (w ∷ vs) a v e = go (nat_eq w.0 a) refl e (λ later. found vs a v later)
  where
    go : (b : Bool) → nat_eq w.0 a ≡ b → cond b (Some w.1) (value_for vs a) ≡ Some v → (value_for vs a ≡ Some v → Found vs a v) → Found (w ∷ vs) a v
    go true is h rest = (0, omega arith, (λ d. (Decides-eqb w.0 a).0 is), (λ d. same_Some w.1 v h))
    go false is h rest = let r = rest h in (suc r.0, omega (arith, r.1), r.2, r.3)

-- the value at an actor's key in the map is the one that is listed for the actor
pub looked-up : (test : ActorId → Bool) (a : ℕ) → ((k : ActorId) → test k ≡ nat_eq k.0 a) → (es : List (ActorId × ℤ)) → lookup test es ≡ value_for (map value_of es) a
looked-up test a same [] = refl
looked-up test a same (e ∷ es) = rw (same e.0) (go (nat_eq e.0.0 a) (looked-up test a same es))
  where
    go : (b : Bool) → lookup test es ≡ value_for (map value_of es) a → cond b (Some e.1) (lookup test es) ≡ cond b (Some e.1) (value_for (map value_of es) a)
    go true rest = refl
    go false rest = rest

-- ---- tests over entries

all_from : {A B : Type 0} (test : A → Bool) (f : A → B) (P : B → Type 0) → ((x : A) → test x ≡ true → P (f x)) → (xs : List A) → list_all test xs ≡ true → All P (map f xs)
all_from test f P h [] e = All-nil P
all_from test f P h (x ∷ xs) e = All-cons P (f x) (map f xs) (h x (first (test x) (list_all test xs) e)) (all_from test f P h xs (second (test x) (list_all test xs) e))
  where
    first : (a b : Bool) → (a && b) ≡ true → a ≡ true
    first true b h = refl
    first false b h = h

    second : (a b : Bool) → (a && b) ≡ true → b ≡ true
    second true b h = h
    second false b h = absurd (false≢true h)

all_to : {A B : Type 0} (test : A → Bool) (f : A → B) (P : B → Type 0) → ((x : A) → P (f x) → test x ≡ true) → (xs : List A) → All P (map f xs) → list_all test xs ≡ true
all_to test f P h [] all = refl
all_to test f P h (x ∷ xs) all = rw (h x (All-head P (f x) (map f xs) all), all_to test f P h xs (All-tail P (f x) (map f xs) all)) refl

-- an actor has the value alone
abbrev IsAlone : ℕ → ℤ → ℕ × ℤ → Type 0
IsAlone actor value v = v.1 ≡ value → v.0 ≡ actor

alone_from : (actor : ℕ) (value : ℤ) (v : ActorId × ℤ) → (not (int_eq v.1 value) || nat_eq v.0.0 actor) ≡ true → IsAlone actor value (value_of v)
alone_from actor value v e same = (Decides-eqb v.0.0 actor).0 (rest (int_eq v.1 value) (nat_eq v.0.0 actor) e ((Decides-int_eq v.1 value).1 same))
  where
    rest : (a b : Bool) → (not a || b) ≡ true → a ≡ true → b ≡ true
    rest true b h is = h
    rest false b h is = absurd (false≢true is)

alone_to : (actor : ℕ) (value : ℤ) (v : ActorId × ℤ) → IsAlone actor value (value_of v) → (not (int_eq v.1 value) || nat_eq v.0.0 actor) ≡ true
alone_to actor value v h = go (int_eq v.1 value) refl
  where
    go : (b : Bool) → int_eq v.1 value ≡ b → (not b || nat_eq v.0.0 actor) ≡ true
    go true e = (Decides-eqb v.0.0 actor).1 (h ((Decides-int_eq v.1 value).0 e))
    go false e = refl

-- each actor has its value alone
abbrev AreAlone : List (ℕ × ℤ) → ℕ × ℤ → Type 0
AreAlone vs v = All (IsAlone v.0 v.1) vs

distinct_from : (es : List (ActorId × ℤ)) (x : ℕ) → are_distinct es es ≡ true → HasDistinctTurns (Turn x (map value_of es))
unfolding Found
distinct_from es x e a b v at_a at_b =
    let vs = map value_of es in
    let alone : All (AreAlone vs) vs =
    all_from (λ w. is_value_of es w.0.0 w.1) value_of (AreAlone vs) (λ w h. all_from (λ u. not (int_eq u.1 w.1) || nat_eq u.0.0 w.0.0) value_of (IsAlone w.0.0 w.1) (alone_from w.0.0 w.1) es h) es e in
    let d : ℕ × ℤ = (0, v) in
    let i = found vs a v at_a in
    let j = found vs b v at_b in
    let here = alone i.0 d i.1 j.0 d j.1 (j.3 d ∙ sym (i.3 d)) in
    sym (i.2 d) ∙ sym here ∙ j.2 d

distinct_to : (es : List (ActorId × ℤ)) (x : ℕ) → AreRising (map value_of es) → HasDistinctTurns (Turn x (map value_of es)) → are_distinct es es ≡ true
distinct_to es x rising_ distinct =
    let vs = map value_of es in
    let h = rises_whole vs rising_ in
    let alone : All (AreAlone vs) vs = λ i d in_i j g in_j same.
    distinct (get_or vs j g).0 (get_or vs i d).0 (get_or vs i d).1 (value_at vs 0 j g h in_j ∙ ap Some same) (value_at vs 0 i d h in_i) in
    all_to (λ w. is_value_of es w.0.0 w.1) value_of (AreAlone vs) (λ w h. all_to (λ u. not (int_eq u.1 w.1) || nat_eq u.0.0 w.0.0) value_of (IsAlone w.0.0 w.1) (alone_to w.0.0 w.1) es h) es alone

-- ---- values of 64 bits

to_T : (b : Bool) → b ≡ true → T b
to_T b e = subst T (sym e) tt

from_T : (b : Bool) → T b → b ≡ true
from_T true t = refl
from_T false t = absurd t

number_from : (z : ℤ) → is_number z ≡ true → IsNumber z
number_from z e =
    let parts = and_parts (le_z (negsuc 9223372036854775807) z) (le_z z (pos 9223372036854775807)) e in
    let low : negsuc 9223372036854775807 ≤ℤ z = le_z_yes (to_T _ parts.0) in
    let high : z ≤ℤ pos 9223372036854775807 = le_z_yes (to_T _ parts.1) in
    omega (arith, ints, low, high)

number_to : (z : ℤ) → IsNumber z → is_number z ≡ true
number_to z h =
    let low : negsuc 9223372036854775807 ≤ℤ z = omega (arith, ints, h) in
    let high : z ≤ℤ pos 9223372036854775807 = omega (arith, ints, h) in
    rw (from_T (le_z (negsuc 9223372036854775807) z) low.le, from_T (le_z z (pos 9223372036854775807)) high.le) refl

pub is_value : (count a : ℕ) (z : ℤ) → IsNumber z → nat_lt a count ≡ (nat_lt a count && is_number z)
is_value count a z h = go (nat_lt a count)
  where
    go : (b : Bool) → b ≡ (b && is_number z)
    go true = sym (number_to z h)
    go false = refl

-- ---- the values fit

-- they are of actors of the application, are numbers, and distinct
abbrev pub ValuesFit : ℕ → ℕ → List (ℕ × ℤ) → Type 0
ValuesFit n x vs = All (λ v. (v.0 < n) × IsNumber v.1) vs × HasDistinctTurns (Turn x vs) × AreRising vs

turn_value_from : (n : ℕ) (v : ActorId × ℤ) → is_turn_value n v ≡ true → (v.0.0 < n) × IsNumber v.1
turn_value_from n v e = let parts = and_parts (nat_lt v.0.0 n) (is_number v.1) e in ((Decides-ltb v.0.0 n).0 parts.0, number_from v.1 parts.1)

turn_value_to : (n : ℕ) (v : ActorId × ℤ) → (v.0.0 < n) × IsNumber v.1 → is_turn_value n v ≡ true
turn_value_to n v h = rw ((Decides-ltb v.0.0 n).1 h.0, number_to v.1 h.1) refl

pub fit_from : (n x : ℕ) (es : List (ActorId × ℤ)) → AreRising (map value_of es) → are_turn_values n es ≡ true → are_distinct es es ≡ true → ValuesFit n x (map value_of es)
fit_from n x es rising_ actors distinct =
    (all_from (is_turn_value n) value_of (λ v. (v.0 < n) × IsNumber v.1) (turn_value_from n) es actors, distinct_from es x distinct, rising_)

pub fit_to_actors : (n x : ℕ) (es : List (ActorId × ℤ)) → ValuesFit n x (map value_of es) → are_turn_values n es ≡ true
fit_to_actors n x es fit = all_to (is_turn_value n) value_of (λ v. (v.0 < n) × IsNumber v.1) (turn_value_to n) es fit.0

pub fit_to_distinct : (n x : ℕ) (es : List (ActorId × ℤ)) → ValuesFit n x (map value_of es) → are_distinct es es ≡ true
fit_to_distinct n x es fit = distinct_to es x fit.2 fit.1

-- so a turn fits, where its variable is one of the application's
pub turn_fits : (P : Program) (x : ℕ) (vs : List (ℕ × ℤ)) (r : Bool) → x < length P.variables → IsTrue r ↔ ValuesFit (length P.actors) x vs → IsTrue r ↔ GuardFits P (Turn x vs)
turn_fits P x vs r within h = ((λ t. let fit = h.0 t in (within, fit.0, fit.1, fit.2)), (λ fit. h.1 (fit.1, fit.2, fit.3)))

-- ---- the entries of a map

-- they go by rising actors
pub rising : (cmp : ActorId → ActorId → Ordering) → ((x y : ActorId) → cmp x y ≡ Less → x.0 < y.0) → (es : List (ActorId × ℤ)) → IsStrictlySortedBy cmp (keys_of es) → AreRising (map value_of es)
rising cmp law es sorted i j d less within =
    let in_es : j < length es = omega (arith, within, length-map es value_of) in
    let e : ActorId × ℤ = (record { 0 = d.0 }, d.1) in
    let one : get_or (map value_of es) i d ≡ value_of (get_or es i e) = get_or-map value_of es i e d (omega (arith, less, in_es)) in
    let other : get_or (map value_of es) j d ≡ value_of (get_or es j e) = get_or-map value_of es j e d in_es in
    let keys : j < length (keys_of es) = omega (arith, in_es, length-map es (λ (p : ActorId × ℤ). p.0)) in
    let before = Less-from_sorted cmp (keys_of es) i j e.0 sorted less keys in
    let k_i : get_or (keys_of es) i e.0 ≡ (get_or es i e).0 = get_or-map (λ (p : ActorId × ℤ). p.0) es i e e.0 (omega (arith, less, in_es)) in
    let k_j : get_or (keys_of es) j e.0 ≡ (get_or es j e).0 = get_or-map (λ (p : ActorId × ℤ). p.0) es j e e.0 in_es in
    let lower : (get_or es i e).0.0 < (get_or es j e).0.0 = law (get_or es i e).0 (get_or es j e).0 (sym (rw (k_i, k_j) refl) ∙ before) in
    subst (λ v. v.0 < (get_or (map value_of es) j d).0) (sym one) (subst (λ v. (get_or es i e).0.0 < v.0) (sym other) lower)
