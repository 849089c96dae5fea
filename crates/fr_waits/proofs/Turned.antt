-- A cycle begun at another of its actors: one reads it from a place on, and then what was before. It begins at the least
-- actor where that is the place, and has no actor twice where it had none before.
use Rattle.std.proofs.Common.{◌≡◌, ◌≢◌, ℕ, suc, ◌<◌, ◌≤◌, ◌+◌, ◌-◌, List, [], ◌∷◌, ◌++◌, length, get_or, take, drop, refl, sym, ap, ◌∙◌, subst, ◌⊎◌, inl, inr, ⊎_elim, arith, length-append, length-drop, get_or-drop, get_or-take, add-zero}
use Rattle.std.specs.Prelude.{All, nat_lt}
use Rattle.std.specs.List.{IsFirstBest}
use Rattle.std.proofs.lemmas.Bool.{ltb-false, cases_lt}
use Rattle.std.proofs.lemmas.List.{get_or_append_left, get_or-append_right, take_rest, take-append-drop}
use Rattle.std.proofs.lemmas.List.Elements.{All-append, All-take, All-drop, All-from_get_or}
use Rattle.fr_waits.specs.declared.wait.Wait.{Wait}
use Rattle.fr_waits.specs.Waits.{BeginsAtLeast, HasEachOnce}

-- the slice of a list from a place on
pub rest-of : (now xs : List Wait) (n : ℕ) → now ≡ xs → take (length now - n) (drop n now) ≡ drop n xs
rest-of now xs n e = take_rest now n ∙ ap (drop n) e

-- a list begins at the least actor where no other one of it has a lesser number
begins : (xs : List Wait) → ((d : Wait) (k : ℕ) → k < length xs → (get_or xs 0 d).actor.0 ≤ (get_or xs k d).actor.0) → BeginsAtLeast xs
begins [] h = tt
begins (w ∷ rest) h = λ k d l. h d (suc k) (omega arith)

pub begins-there : (k : ℕ) (xs : List Wait) → IsFirstBest (λ v w. nat_lt v.actor.0 w.actor.0) xs (length xs) k → BeginsAtLeast (drop k xs ++ take k xs)
begins-there k xs best =
    begins (drop k xs ++ take k xs) (λ d j l.
    let P : Wait → Type 0 = λ v. (get_or xs k d).actor.0 ≤ v.actor.0 in
    let all : All P xs = All-from_get_or P xs d (λ i b. ltb-false _ _ (best.1 i d b)) in
    let every : All P (drop k xs ++ take k xs) = All-append P (drop k xs) (take k xs) (All-drop P k xs all) (All-take P k xs all) in
    let some : 0 < length (drop k xs) = omega (arith, length-drop k xs, best.0) in
    let first : get_or (drop k xs ++ take k xs) 0 d ≡ get_or xs k d =
    get_or_append_left (drop k xs) (take k xs) d 0 some ∙ get_or-drop k xs 0 d ∙ ap (λ n. get_or xs n d) (add-zero k) in
    subst (λ w. w.actor.0 ≤ (get_or (drop k xs ++ take k xs) j d).actor.0) (sym first) (every j d l))

-- a part of a list in which each actor is once, and such a list begun elsewhere
abbrev Apart : Wait → Wait → Type 0
Apart v w = v.actor.0 ≢ w.actor.0

apart-any : (xs : List Wait) (i j : ℕ) (d : Wait) → HasEachOnce xs → i ≢ j → i < length xs → j < length xs → Apart (get_or xs i d) (get_or xs j d)
apart-any xs i j d once ne li lj =
    ⊎_elim (λ l. once i j d l lj) (λ l e. once j i d (omega arith) li (sym e)) (cases_lt i j)

apart-at : (x y v w : Wait) → x ≡ v → y ≡ w → Apart v w → Apart x y
apart-at x y v w p q h = subst (λ a. Apart a y) (sym p) (subst (λ b. Apart v b) (sym q) h)

drop-once : (n : ℕ) (xs : List Wait) → HasEachOnce xs → HasEachOnce (drop n xs)
drop-once n xs once = λ i j d h l.
    let long = length-drop n xs in
    apart-at _ _ _ _ (get_or-drop n xs i d) (get_or-drop n xs j d) (once (n + i) (n + j) d (omega arith) (omega arith))

-- where an element of the list begun at k was
record Was (k : ℕ) (xs : List Wait) (i : ℕ) (d : Wait) : Type 0 where
  at : ℕ
  within : at < length xs
  is : get_or (drop k xs ++ take k xs) i d ≡ get_or xs at d
  from : (at ≡ k + i) ⊎ ((at + length xs ≡ k + i) × (at < k))

was : (k : ℕ) (xs : List Wait) (i : ℕ) (d : Wait) → k < length xs → i < length xs → Was k xs i d
was k xs i d lk li =
    let n = length xs - k in
    let long : length (drop k xs) ≡ n = length-drop k xs in
    ⊎_elim
    (λ l. let h : i < length (drop k xs) = omega arith in record {
      at = k + i;
      within = omega arith;
      is = get_or_append_left (drop k xs) (take k xs) d i h ∙ get_or-drop k xs i d;
      from = inl refl;
    })
    (λ l. let h : i - n < k = omega arith in record {
      at = i - n;
      within = omega arith;
      is = get_or-append_right (drop k xs) (take k xs) n i d long l ∙ get_or-take k xs (i - n) d h;
      from = inr (omega arith, h);
    })
    (cases_lt i n)

other-place : (k : ℕ) (xs : List Wait) (i j : ℕ) (d : Wait) → i < j → (v : Was k xs i d) (w : Was k xs j d) → v.at ≢ w.at
other-place k xs i j d l v w e =
    ⊎_elim
    (λ p. ⊎_elim (λ q. absurd (omega arith)) (λ q. absurd (omega (arith, q.0, q.1))) w.from)
    (λ p. ⊎_elim (λ q. absurd (omega (arith, p.0, p.1))) (λ q. absurd (omega (arith, p.0, q.0))) w.from)
    v.from

turned-once : (k : ℕ) (xs : List Wait) → k < length xs → HasEachOnce xs → HasEachOnce (drop k xs ++ take k xs)
turned-once k xs lk once = λ i j d h l.
    let long : length (drop k xs ++ take k xs) ≡ length xs = (let e = take-append-drop k xs in omega (arith, length-append (drop k xs) (take k xs), length-append (take k xs) (drop k xs), ap length e)) in
    let v = was k xs i d lk (omega arith) in
    let w = was k xs j d lk (omega arith) in
    apart-at _ _ _ _ v.is w.is (apart-any xs v.at w.at d once (other-place k xs i j d h v w) v.within w.within)

pub once-there : (start k : ℕ) (trail : List Wait) → HasEachOnce trail → k < length (drop start trail) → HasEachOnce (drop k (drop start trail) ++ take k (drop start trail))
once-there start k trail once l = turned-once k (drop start trail) l (drop-once start trail once)
