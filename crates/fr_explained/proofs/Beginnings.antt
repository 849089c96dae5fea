-- Items that explain some events are cut after fewer.
use Rattle.std.proofs.Common.{◌≡◌, ◌≤◌, ◌<◌, ◌+◌, ⊎_elim, ℕ, suc, List, [], ◌∷◌, arith, refl, sym}
use Rattle.std.proofs.Math.Nat.{eq-or-lt_of_le}
use Rattle.std.proofs.lemmas.Bool.{cases_lt}
use Rattle.fr_program.specs.Program.{Program}
use Rattle.fr_events.specs.declared.trace.Trace.{Trace}
use Rattle.fr_explained.specs.Alone.{NoneExplains}
use Rattle.fr_explained.specs.Explains.{Explains, Passes, World}
use Rattle.fr_explained.specs.declared.item.Item.{Item}
use Rattle.fr_explained.specs.declared.item.Item.TheVariants.{Step as StepItem, Event as EventItem}

module _ (P : Program) (e : Trace) (k : ℕ) where
  -- the first of the items, which lead to a world after so many events
  abbrev Cut : World → Type 0
  Cut V = (items : List Item) × (W : World) × Passes P e V items W × (W.done ≡ k)

  cut : (items : List Item) (V W : World) → V.done ≤ k → k ≤ W.done → Passes P e V items W → Cut V
  cut [] V W least most same =
      let is : V ≡ W = same in
      ([], V, refl, (let d : V.done ≡ W.done = cc in omega (arith, least, most, d)))
  cut (StepItem step ∷ rest) V W least most (mid, h, more) =
      let is : mid.done ≡ V.done = h.5 in
      let c = cut rest mid W (omega (arith, least, is)) most more in
      (StepItem step ∷ c.0, c.1, (mid, h, c.2), c.3)
  cut (EventItem ∷ rest) V W least most (mid, h, more) =
      let is : mid.done ≡ suc V.done = h.8 in
      ⊎_elim
      (λ e. ([], V, refl, e))
      (λ l. (let c = cut rest mid W (omega (arith, l, is)) most more in (EventItem ∷ c.0, c.1, (mid, h, c.2), c.3)))
      (eq-or-lt_of_le least)

-- where some items explain so many events, some explain fewer
pub beginning : (P : Program) (e : Trace) (n k : ℕ) (items : List Item) → k ≤ n → Explains P e n items → (first : List Item) × Explains P e k first
beginning P e n k items le (V, W, first, passes, done) =
    let zero-done : V.done ≡ 0 = first.done in
    let c = cut P e k items V W (omega (arith, zero-done)) (omega (arith, le, done)) passes in
    (c.0, (V, c.1, first, c.2, c.3))

-- the most events that can be explained are one number
pub one-first : (P : Program) (e : Trace) (n m : ℕ) (items others : List Item) → Explains P e n items → NoneExplains P e (n + 1) → Explains P e m others
    → NoneExplains P e (m + 1) → n ≡ m
one-first P e n m items others explains none-more other no-more =
    ⊎_elim
    (λ (l : n < m). (let b = beginning P e m (n + 1) others (omega (arith, l)) other in absurd (none-more b.0 b.1)))
    (λ (le : m ≤ n).
    ⊎_elim
    (λ (same : m ≡ n). sym same)
    (λ (l : m < n). (let b = beginning P e n (m + 1) items (omega (arith, l)) explains in absurd (no-more b.0 b.1)))
    (eq-or-lt_of_le le))
    (cases_lt n m)
