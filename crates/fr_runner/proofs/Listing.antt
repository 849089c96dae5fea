-- The list of a set of choices has them all, in rising order.
use Rattle.std.proofs.Common.{◌≡◌, ◌<◌, ◌+◌, ℕ, zero, suc, List, [], ◌∷◌, Some, length, get_or, refl, sym, ap, ◌∙◌, subst, arith, rules, ◌↔◌, ◌⊎◌, inl, inr}
use Rattle.std.specs.Prelude.{ℤ, pos, ◌+ℤ◌, ◌-ℤ◌, ◌≤ℤ◌, ◌<ℤ◌, slice_get, AllPairs, Contains, nat_abs}
use Rattle.std.proofs.lemmas.Int.{ints}
use Rattle.std.proofs.lemmas.Option.{slice_get-get_or, slice_get_within, same_Some}
use Rattle.fr_program.specs.Program.{Program}
use Rattle.fr_rules.specs.State.{State}
use Rattle.fr_calls.specs.declared.moves.Moves.{Moves}
use Rattle.fr_calls.specs.declared.moves.Moves.TheVariants.{None as NoMove, Span, Pair}
use Rattle.fr_rules.specs.Choices.{CanChoose}
use Rattle.fr_calls.specs.Moves.{IsAmong, IsRising}
use Rattle.fr_runner.specs.Listed.{numbers_from, listed}
use Rattle.fr_runner.specs.Trace.{AreChoices}

pub length-numbers : (lo : ℤ) (n : ℕ) → length (numbers_from lo n) ≡ n
length-numbers lo zero = refl
length-numbers lo (suc n) = ap suc (length-numbers (lo +ℤ pos 1) n)

pub numbers-at : (lo : ℤ) (n k : ℕ) (d : ℤ) → k < n → get_or (numbers_from lo n) k d ≡ lo +ℤ pos k
numbers-at lo zero k d h = absurd (omega arith)
numbers-at lo (suc n) zero d h = omega (arith, ints)
numbers-at lo (suc n) (suc k) d h = omega (arith, ints, numbers-at (lo +ℤ pos 1) n k d (omega arith))

-- a number that is at least another is so much above it
above : (lo c : ℤ) → lo ≤ℤ c → (lo +ℤ pos (nat_abs (c -ℤ lo))) ≡ c
above lo c h = search (ints, rules)

numbers-have : (lo : ℤ) (n : ℕ) (c : ℤ) → (Contains (numbers_from lo n) c ↔ ((lo ≤ℤ c) × (c <ℤ (lo +ℤ pos n))))
numbers-have lo n c = (to, from)
  where
    to : Contains (numbers_from lo n) c → (lo ≤ℤ c) × (c <ℤ (lo +ℤ pos n))
    to h =
        let below : h.0 < n = subst (λ m. h.0 < m) (length-numbers lo n) h.1 in
        let at = numbers-at lo n h.0 c below in
        (omega (arith, ints, h.2), omega (arith, ints, h.2))

    from : (lo ≤ℤ c) × (c <ℤ (lo +ℤ pos n)) → Contains (numbers_from lo n) c
    from h =
        let k = nat_abs (c -ℤ lo) in
        let e = above lo c h.0 in
        let below : k < n = omega (arith, ints, h.1) in
        (k, subst (λ m. k < m) (sym (length-numbers lo n)) below, numbers-at lo n k c below ∙ e)

numbers-rise : (lo : ℤ) (n : ℕ) → AllPairs (λ x y. x <ℤ y) (numbers_from lo n)
numbers-rise lo n i j d less within =
    let below : j < n = subst (λ m. j < m) (length-numbers lo n) within in
    let x = numbers-at lo n i d (omega arith) in
    let y = numbers-at lo n j d below in
    omega (arith, ints)

none-rise : AllPairs (λ x y. x <ℤ y) []
none-rise i j d less within = absurd (omega arith)

pair-rises : (a b : ℤ) → a <ℤ b → AllPairs (λ x y. x <ℤ y) (a ∷ b ∷ [])
pair-rises a b h zero (suc zero) d less within = h
pair-rises a b h zero (suc (suc j)) d less within = absurd (omega arith)
pair-rises a b h zero zero d less within = absurd (omega arith)
pair-rises a b h (suc i) j d less within = absurd (omega arith)

pair-has : (a b c : ℤ) → (Contains (a ∷ b ∷ []) c ↔ ((c ≡ a) ⊎ (c ≡ b)))
pair-has a b c = (to, from)
  where
    to : Contains (a ∷ b ∷ []) c → (c ≡ a) ⊎ (c ≡ b)
    to (zero, l, e) = inl (sym e)
    to (suc zero, l, e) = inr (sym e)
    to (suc (suc k), l, e) = absurd (omega arith)

    from : (c ≡ a) ⊎ (c ≡ b) → Contains (a ∷ b ∷ []) c
    from (inl e) = (0, omega arith, sym e)
    from (inr e) = (1, omega arith, sym e)

-- the list of a set of choices has just these, in rising order
listed-has : (moves : Moves) → IsRising moves → (c : ℤ) → (Contains (listed moves) c ↔ IsAmong moves c)
listed-has NoMove r c = ((λ h. absurd (omega (arith, h.1))), (λ h. absurd h))
listed-has (Span lo hi) r c =
    let h = numbers-have lo (nat_abs (hi -ℤ lo) + 1) c in
    let e = above lo hi r in
    ((λ k. let b = h.0 k in (b.0, omega (arith, ints, b.1))), (λ k. h.1 (k.0, omega (arith, ints, k.1))))
listed-has (Pair a b) r c = pair-has a b c

listed-rises : (moves : Moves) → IsRising moves → AllPairs (λ x y. x <ℤ y) (listed moves)
listed-rises NoMove r = none-rise
listed-rises (Span lo hi) r = numbers-rise lo (nat_abs (hi -ℤ lo) + 1)
listed-rises (Pair a b) r = pair-rises a b r

-- so it has an actor's choices, where the set is exactly these
pub are-choices : (P : Program) (S : State) (a : ℕ) (moves : Moves) → IsRising moves → ((c : ℤ) → (IsAmong moves c ↔ CanChoose P S a c)) → AreChoices P S a (listed moves)
are-choices P S a moves r exact =
    record {
      rising = listed-rises moves r;
      exact = λ c. let h = listed-has moves r c in ((λ k. (exact c).0 (h.0 k)), (λ k. h.1 ((exact c).1 k)));
    }

-- what is at a place of a list is one of it
pub contains-at : (xs : List ℤ) (k : ℕ) (c : ℤ) → slice_get xs k ≡ Some c → Contains xs c
contains-at xs k c e =
    let within = slice_get_within xs k c e in
    (k, within, same_Some _ _ (sym (slice_get-get_or xs k c within) ∙ e))
