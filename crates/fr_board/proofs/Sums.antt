-- Sums over the numbers of a pass and over all passes.
-- A step changes one pass, and so each sum by what the new pass adds more than the old one.
use Rattle.std.proofs.Common.{◌≡◌, ◌≢◌, ℕ, zero, suc, ◌+◌, ◌*◌, ◌<◌, ◌≤◌, List, [], ◌∷◌, ◌++◌, length, set, cond, eqb, true, false, Bool, refl, sym, ap, subst, ⊎_elim, arith}
use Rattle.std.proofs.lemmas.Bool.Decides.{nat_tests}
use Rattle.std.specs.Prelude.{Some, All, Contains}
use mathlib.Core.Option.{some, some-ne-none, some-injective}
use lib.ListN.{get_elem?}
use Rattle.atomic_table.proofs.Lists.{at_set, at_snoc}
use Rattle.fr_board.specs.declared.progress.Outcome.{Outcome}
use Rattle.fr_board.specs.declared.progress.Outcome.TheVariants.{Failed}
use Rattle.fr_board.specs.declared.progress.Drawn.{Drawn}
use Rattle.fr_board.specs.declared.progress.Progress.{Progress}
use Rattle.fr_board.specs.Drawn.{sum_of, draw, draw_of, marks, mark_of, entry, outcome_of, with_outcome, IsAbove}
use Rattle.fr_board.specs.Progress.{total, in_pass, weight_of}
use Rattle.fr_board.specs.Rule.{once_below}

pub sum_of-push : (f : Drawn → ℕ) (ds : List Drawn) (d : Drawn) → sum_of f (ds ++ d ∷ []) ≡ sum_of f ds + f d
sum_of-push f [] d = omega arith
sum_of-push f (x ∷ xs) d = omega (arith, sum_of-push f xs d)

pub sum_of-append : (f : Drawn → ℕ) (ds es : List Drawn) → sum_of f (ds ++ es) ≡ sum_of f ds + sum_of f es
sum_of-append f [] es = omega arith
sum_of-append f (x ∷ xs) es = omega (arith, sum_of-append f xs es)

pub sum_of-le : (f g : Drawn → ℕ) → ((d : Drawn) → f d ≤ g d) → (ds : List Drawn) → sum_of f ds ≤ sum_of g ds
sum_of-le f g h [] = omega arith
sum_of-le f g h (x ∷ xs) = omega (arith, h x, sum_of-le f g h xs)

-- the total after a change of one pass
pub total-set : (f : Progress → ℕ) (vs : List Progress) (id : ℕ) (v w : Progress) → get_elem? vs id ≡ some v → total f (set vs id w) + f v ≡ total f vs + f w
total-set f [] id v w e = absurd (some-ne-none v (sym e))
total-set f (x ∷ xs) zero v w e = let is : f x ≡ f v = ap f (some-injective x v e) in omega arith
total-set f (x ∷ xs) (suc id) v w e = let r = total-set f xs id v w e in omega arith

pub total-push : (f : Progress → ℕ) (vs : List Progress) (v : Progress) → total f (vs ++ v ∷ []) ≡ total f vs + f v
total-push f [] v = omega arith
total-push f (x ∷ xs) v = omega (arith, total-push f xs v)

pub total-at : (f : Progress → ℕ) (vs : List Progress) (id : ℕ) (v : Progress) → get_elem? vs id ≡ some v → f v ≤ total f vs
total-at f [] id v e = absurd (some-ne-none v (sym e))
total-at f (x ∷ xs) zero v e = let is : f x ≡ f v = ap f (some-injective x v e) in omega arith
total-at f (x ∷ xs) (suc id) v e = omega (arith, total-at f xs id v e)

pub total-le : (f g : Progress → ℕ) (vs : List Progress) → ((id : ℕ) (v : Progress) → get_elem? vs id ≡ some v → f v ≤ g v) → total f vs ≤ total g vs
total-le f g [] h = omega arith
total-le f g (x ∷ xs) h = omega (arith, h 0 x refl, total-le f g xs (λ id v e. h (suc id) v e))

-- what holds of each pass but one, and of what takes its place
pub every-set : (P : Progress → Type 0) (vs : List Progress) (id : ℕ) (w : Progress) → ((j : ℕ) (v : Progress) → get_elem? vs j ≡ some v → P v) → P w → (j : ℕ) (v : Progress) → get_elem? (set vs id w) j ≡ some v → P v
every-set P vs id w others mine j v e =
    ⊎_elim
    (λ (x : (j ≡ id) × (w ≡ v)). subst P x.1 mine)
    (λ (x : (j ≢ id) × (get_elem? vs j ≡ some v)). others j v x.1)
    (at_set vs id j w v e)

pub every-push : (P : Progress → Type 0) (vs : List Progress) (w : Progress) → ((j : ℕ) (v : Progress) → get_elem? vs j ≡ some v → P v) → P w → (j : ℕ) (v : Progress) → get_elem? (vs ++ w ∷ []) j ≡ some v → P v
every-push P vs w others mine j v e =
    ⊎_elim
    (λ (x : get_elem? vs j ≡ some v). others j v x)
    (λ (x : w ≡ v). subst P x mine)
    (at_snoc vs w v j e)

pub once_below-more : (x n : ℕ) → once_below x (n + 1) ≡ once_below x n + cond (eqb n x) 1 0
once_below-more x n = grind (arith, nat_tests)

-- where no number from n on was drawn, all are below n
pub IsAbove-none : (n : ℕ) (ds : List Drawn) → ((x : ℕ) → n ≤ x → sum_of (draw_of x) ds ≡ 0) → IsAbove n ds
IsAbove-none n [] h k d short = absurd (omega arith)
IsAbove-none n (x ∷ xs) h zero d short = here n x xs h
  where
    here : (n : ℕ) (x : Drawn) (xs : List Drawn) → ((y : ℕ) → n ≤ y → sum_of (draw_of y) (x ∷ xs) ≡ 0) → x.number < n
    here n x xs h = let draw : n ≤ x.number → sum_of (draw_of x.number) (x ∷ xs) ≡ 0 = h x.number in grind (arith, nat_tests)
IsAbove-none n (x ∷ xs) h (suc k) d short = IsAbove-none n xs (λ y le. omega (arith, h y le)) k d (omega arith)

-- the weight after a number has become something else
pub sum_of-with_outcome : (f : Drawn → ℕ) (n : ℕ) (o was : Outcome) (ds : List Drawn) → outcome_of n ds ≡ Some was → sum_of f (with_outcome n o ds) + f (entry n was) ≡ sum_of f ds + f (entry n o)
sum_of-with_outcome f n o was [] e = absurd (cc)
sum_of-with_outcome f n o was (d ∷ ds) e = here (sum_of-with_outcome f n o was ds) (eqb d.number n) refl e
  where
    here : (outcome_of n ds ≡ Some was → sum_of f (with_outcome n o ds) + f (entry n was) ≡ sum_of f ds + f (entry n o)) → (b : Bool) → eqb d.number n ≡ b → cond b (Some d.outcome) (outcome_of n ds) ≡ Some was → sum_of f (cond b (entry n o ∷ ds) (d ∷ with_outcome n o ds)) + f (entry n was) ≡ f d + sum_of f ds + f (entry n o)
    here more true is e =
        let number : d.number ≡ n = grind (arith, nat_tests) in
        let outcome : d.outcome ≡ was = cc in
        let same : f d ≡ f (entry n was) = λ i. f (entry (number i) (outcome i)) in
        omega arith
    here more false is e = omega (arith, more e)

pub once_below-is : (x n : ℕ) → x < n → once_below x n ≡ 1
once_below-is x n = grind (arith, nat_tests)

pub once_below-one : (x n : ℕ) → once_below x n ≤ 1
once_below-one x n = grind (arith, nat_tests)

pub once_below-not : (x n : ℕ) → n ≤ x → once_below x n ≡ 0
once_below-not x n = grind (arith, nat_tests)

pub outcome_of-with_outcome : (n : ℕ) (o was : Outcome) (ds : List Drawn) → outcome_of n ds ≡ Some was → outcome_of n (with_outcome n o ds) ≡ Some o
outcome_of-with_outcome n o was [] e = absurd (cc)
outcome_of-with_outcome n o was (d ∷ ds) e = here (outcome_of-with_outcome n o was ds) (eqb d.number n) refl e
  where
    here : (outcome_of n ds ≡ Some was → outcome_of n (with_outcome n o ds) ≡ Some o) → (b : Bool) → eqb d.number n ≡ b → cond b (Some d.outcome) (outcome_of n ds) ≡ Some was → outcome_of n (cond b (entry n o ∷ ds) (d ∷ with_outcome n o ds)) ≡ Some o
    here more true is e = let t : eqb n n ≡ true = grind (arith, nat_tests) in rw t refl
    here more false is e = rw is (more e)

pub with_outcome-with_outcome : (n : ℕ) (o p : Outcome) (ds : List Drawn) → with_outcome n o (with_outcome n p ds) ≡ with_outcome n o ds
with_outcome-with_outcome n o p [] = refl
with_outcome-with_outcome n o p (d ∷ ds) = here (with_outcome-with_outcome n o p ds) (eqb d.number n) refl
  where
    here : with_outcome n o (with_outcome n p ds) ≡ with_outcome n o ds → (b : Bool) → eqb d.number n ≡ b → with_outcome n o (cond b (entry n p ∷ ds) (d ∷ with_outcome n p ds)) ≡ cond b (entry n o ∷ ds) (d ∷ with_outcome n o ds)
    here more true is = let t : eqb n n ≡ true = grind (arith, nat_tests) in rw t refl
    here more false is = rw is (ap (λ l. d ∷ l) more)

-- a number that stands as a failure weighs something
pub marked-outcome_of : (n : ℕ) (ds : List Drawn) → outcome_of n ds ≡ Some Failed → 0 < sum_of (mark_of n) ds
marked-outcome_of n [] e = absurd (cc)
marked-outcome_of n (d ∷ ds) e = here (marked-outcome_of n ds) (eqb d.number n) refl e
  where
    here : (outcome_of n ds ≡ Some Failed → 0 < sum_of (mark_of n) ds) → (b : Bool) → eqb d.number n ≡ b → cond b (Some d.outcome) (outcome_of n ds) ≡ Some Failed → 0 < cond b 1 0 * marks d.outcome + sum_of (mark_of n) ds
    here more true is e = let o : d.outcome ≡ Failed = cc in let draw : marks d.outcome ≡ 1 = ap marks o in omega arith
    here more false is e = let m = more e in omega arith

-- the number that was drawn last
pub outcome_of-push : (n : ℕ) (o : Outcome) (ds : List Drawn) → IsAbove n ds → outcome_of n (ds ++ entry n o ∷ []) ≡ Some o
outcome_of-push n o [] h = let t : eqb n n ≡ true = grind (arith, nat_tests) in rw t refl
outcome_of-push n o (d ∷ ds) h =
    let lt : d.number < n = h 0 d (omega arith) in
    let t : eqb d.number n ≡ false = grind (arith, nat_tests) in
    rw t (outcome_of-push n o ds (λ k e short. h (suc k) e (omega arith)))

-- the number that was drawn last, with another outcome; for whoever draws and then says what became of it
pub with_outcome-push : (n : ℕ) (o p : Outcome) (ds : List Drawn) → IsAbove n ds → with_outcome n o (ds ++ entry n p ∷ []) ≡ ds ++ entry n o ∷ []
with_outcome-push n o p [] h = let t : eqb n n ≡ true = grind (arith, nat_tests) in rw t refl
with_outcome-push n o p (d ∷ ds) h =
    let lt : d.number < n = h 0 d (omega arith) in
    let t : eqb d.number n ≡ false = grind (arith, nat_tests) in
    rw t (ap (λ l. d ∷ l) (with_outcome-push n o p ds (λ k e short. h (suc k) e (omega arith))))

pub sum_of-add : (f g h : Drawn → ℕ) → ((d : Drawn) → f d + g d ≡ h d) → (ds : List Drawn) → sum_of f ds + sum_of g ds ≡ sum_of h ds
sum_of-add f g h e [] = omega arith
sum_of-add f g h e (d ∷ ds) = omega (arith, e d, sum_of-add f g h e ds)

pub total-add : (f g h : Drawn → ℕ) → ((d : Drawn) → f d + g d ≡ h d) → (vs : List Progress) → total (in_pass f) vs + total (in_pass g) vs ≡ total (in_pass h) vs
total-add f g h e [] = omega arith
total-add f g h e (v ∷ vs) = omega (arith, sum_of-add f g h e v.drawn, total-add f g h e vs)

pub total-under : (f g : Drawn → ℕ) → ((d : Drawn) → f d ≤ g d) → (vs : List Progress) → total (in_pass f) vs ≤ total (in_pass g) vs
total-under f g h vs = total-le (in_pass f) (in_pass g) vs (λ id v e. sum_of-le f g h v.drawn)

sum_of-over : (f g h : Drawn → ℕ) → ((d : Drawn) → f d ≤ g d + h d) → (ds : List Drawn) → sum_of f ds ≤ sum_of g ds + sum_of h ds
sum_of-over f g h e [] = omega arith
sum_of-over f g h e (d ∷ ds) = omega (arith, e d, sum_of-over f g h e ds)

pub total-over : (f g h : Drawn → ℕ) → ((d : Drawn) → f d ≤ g d + h d) → (vs : List Progress) → total (in_pass f) vs ≤ total (in_pass g) vs + total (in_pass h) vs
total-over f g h e [] = omega arith
total-over f g h e (v ∷ vs) = omega (arith, sum_of-over f g h e v.drawn, total-over f g h e vs)

pub sum_of-draw : (ds : List Drawn) → sum_of draw ds ≡ length ds
sum_of-draw [] = refl
sum_of-draw (d ∷ ds) = omega (arith, sum_of-draw ds)

-- where the weights add up to nothing, so does all that a weight of 0 rules out
total-nothing : (f : Progress → ℕ) (vs : List Progress) → total weight_of vs ≡ 0 → ((id : ℕ) (v : Progress) → get_elem? vs id ≡ some v → v.weight ≡ 0 → f v ≡ 0) → total f vs ≡ 0
total-nothing f [] z h = refl
total-nothing f (v ∷ vs) z h = omega (arith, h 0 v refl (omega arith), total-nothing f vs (omega arith) (λ id u e. h (suc id) u e))

-- where one pass has all the weight, the others add nothing
pub total-alone : (f : Progress → ℕ) (vs : List Progress) (id : ℕ) (v : Progress) → get_elem? vs id ≡ some v → total weight_of vs ≡ v.weight → ((j : ℕ) (u : Progress) → get_elem? vs j ≡ some u → u.weight ≡ 0 → f u ≡ 0) → total f vs ≡ f v
total-alone f [] id v e z h = absurd (some-ne-none v (sym e))
total-alone f (x ∷ xs) zero v e z h =
    let is = some-injective x v e in
    let w : x.weight ≡ v.weight = ap weight_of is in
    let fx : f x ≡ f v = ap f is in
    omega (arith, total-nothing f xs (omega arith) (λ j u e'. h (suc j) u e'))
total-alone f (x ∷ xs) (suc id) v e z h =
    let le = total-at weight_of xs id v e in
    let here = h 0 x refl (omega arith) in
    omega (arith, total-alone f xs id v e (omega arith) (λ j u e'. h (suc j) u e'))

-- what holds at each place holds of all
pub All-views : (P : Progress → Type 0) (vs : List Progress) → ((id : ℕ) (v : Progress) → get_elem? vs id ≡ some v → P v) → All P vs
All-views P [] h k d short = absurd (omega arith)
All-views P (x ∷ xs) h zero d short = h 0 x refl
All-views P (x ∷ xs) h (suc k) d short = All-views P xs (λ id v e. h (suc id) v e) k d (omega arith)

pub Contains-view : (vs : List Progress) (id : ℕ) (v : Progress) → get_elem? vs id ≡ some v → Contains vs v
Contains-view [] id v e = absurd (some-ne-none v (sym e))
Contains-view (x ∷ xs) zero v e = (0, omega arith, some-injective x v e)
Contains-view (x ∷ xs) (suc id) v e = let there = Contains-view xs id v e in (suc there.0, omega (arith, there.1), there.2)
