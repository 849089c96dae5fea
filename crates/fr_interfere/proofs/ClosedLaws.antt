-- Actors of which no writing point disturbs a note, as the hulls of all that they write show.
use Rattle.std.proofs.Common.{◌≡◌, ℕ, List, Some, None, Bool, true, false, length, get_or, refl, sym, ap, ◌∙◌, subst, arith, ⊎_elim, inl, inr}
use Rattle.std.specs.Prelude.{Option, IfSome, All, replicate, set, is_some}
use Rattle.fr_interfere.proofs.Terms.{cases_lt, false≢true, length-replicate, get_or-replicate, get_or_past, get_or-set_same, set_past, ActorId, Point, Program, IsPoint, Note, Block, effect_at}
use Rattle.fr_interfere.proofs.Terms.{target_of, IsClosedBy, IsBlock, HaveWriters, AreClosed, IsTold, IsListed, Undisturbed}

pub some-there : (o : Option ℕ) → is_some o ≡ true → (x : ℕ) × (o ≡ Some x)
some-there None is = absurd (false≢true is)
some-there (Some x) is = (x, refl)

-- ---- flags

none-set : (n k : ℕ) → get_or (replicate n false) k false ≡ false
none-set n k = ⊎_elim
    (λ there. get_or-replicate n k false false there)
    (λ past. let long = length-replicate n false in get_or_past (replicate n false) k false (omega (arith, long, past)))
    (cases_lt k n)

pub unset-here : (flags : List Bool) (a : ℕ) → get_or (set flags a false) a false ≡ false
unset-here flags a = ⊎_elim
    (λ there. get_or-set_same flags a false false there)
    (λ past. ap (λ fs. get_or fs a false) (set_past flags a false past) ∙ get_or_past flags a false past)
    (cases_lt a (length flags))

-- ---- closed actors

module _ (P : Program) (notes : List Note) (p : Point) where
  pub none-closed : (n : ℕ) → AreClosed P notes p (replicate n false)
  none-closed n q at writes left = absurd (false≢true (sym (none-set n q.actor.0) ∙ left))

  pub told-still : (closed new : List Bool) → ((k : ℕ) → get_or closed k false ≡ false → get_or new k false ≡ false) → (b : Block) → IsTold P notes p closed b → IsTold P notes p new b
  told-still closed new less b told = ⊎_elim (λ calm. inl calm) (λ (a, is, left). inr (a, is, less a.0 left)) told

  -- where each block is told, the actors that are left are closed
  pub all-told : (closed : List Bool) (blocks : List Block) → All (λ b. IsBlock P notes b) blocks → HaveWriters P blocks → All (λ b. IsTold P notes p closed b) blocks → AreClosed P notes p closed
  all-told closed blocks each found told q at writes shut =
      let (k, b, l, is, listed) = found q at writes in
      let block : IsBlock P notes b = subst (λ x. IsBlock P notes x) is (each k b l) in
      let here : IsTold P notes p closed b = subst (λ x. IsTold P notes p closed x) is (told k b l) in
      ⊎_elim
      (λ calm. calm q at listed)
      (λ (a, one, left).
      let under = block.under q at listed in
      let own : q.actor ≡ a = subst (λ o. IfSome o (λ c. q.actor ≡ c)) one under.actor in
      absurd (false≢true (sym left ∙ subst (λ (c : ActorId). get_or closed c.0 false ≡ true) own shut)))
      here

  -- no point of a block whose actor is closed disturbs the note
  pub closed-block : (closed : List Bool) (b : Block) → AreClosed P notes p closed → IsBlock P notes b → IsClosedBy b.hull closed → (q : Point) → IsPoint P q → IsListed P b.numbers.items q → Undisturbed P notes p q
  closed-block closed b are block (a, x, one, writes, shut) q at listed =
      let under = block.under q at listed in
      let own : q.actor ≡ a = subst (λ o. IfSome o (λ c. q.actor ≡ c)) one under.actor in
      let target : target_of (effect_at P q) ≡ Some x = subst (λ o. IfSome o (λ y. target_of (effect_at P q) ≡ Some y)) writes under.variable in
      are q at (x, target) (subst (λ (c : ActorId). get_or closed c.0 false ≡ true) (sym own) shut)
