-- A step disturbs no note that doesn't speak of what it changes, where it leaves each variable in its declared range.
use Rattle.std.proofs.Common.{◌≡◌, ℕ, Some, sym, subst, arith}
use Rattle.std.specs.Prelude.{List, All}
use Rattle.fr_interfere.proofs.Terms.{ints, same_Some, Point, Program, IsPoint, IsFaultless, Alternative, Note, range_of, note_at, IsPart, Effect, Nothing, Life, Gives, Sets, effect_by, effect_at}
use Rattle.fr_interfere.proofs.Terms.{target_of, made_of, Bears, AllBear, Stays, IsFree, IsUnclaimed, declared_of, StaysAt, Undisturbed}
use Rattle.fr_effects.proofs.BearLaws.{borne-spared}
use Rattle.fr_effects.proofs.DisturbanceLaws.{undisturbed-spared}

-- where each alternative bears what the step can change, nothing is disturbed
pub borne-undisturbed : (P : Program) → IsFaultless P → (notes : List Note) (p q : Point) → IsPoint P q →
    AllBear (effect_at P q) (note_at P notes q) (note_at P notes p) → Undisturbed P notes p q
borne-undisturbed P free notes p q at borne there apart =
    let bears = subst (λ i. AllBear (effect_by P q.side i) (note_at P notes q) (note_at P notes p)) at.1 borne in
    (undisturbed-spared P notes p q there apart).0
    (λ n m one other. borne-spared P free p q (λ e. apart (sym e)) at.0 at.1 (note_at P notes p) (note_at P notes q) bears n m one other)
    there apart

module _ (P : Program) (m n : Alternative) where
  -- what a variable gets from its declared range, an alternative that has the whole range bears
  free-bears : (e : Effect) (x : ℕ) → target_of e ≡ Some x → IsFree P x n → Stays P e m → Bears e m n
  free-bears (Gives y lo hi) x is free stays =
      let there : IsPart (declared_of P y.0) (range_of n y.0) = subst (λ k. IsFree P k n) (sym (same_Some _ _ is)) free in (
        (omega (arith, ints, stays.0.0, there.0), omega (arith, ints, stays.0.1, there.1)),
        (omega (arith, ints, stays.1.0, there.0), omega (arith, ints, stays.1.1, there.1)),
      )
  free-bears (Sets y left operator right) x is free stays = λ u v one other.
      let there : IsPart (declared_of P y.0) (range_of n y.0) = subst (λ k. IsFree P k n) (sym (same_Some _ _ is)) free in
      let inside = stays u v one other in
      (omega (arith, ints, inside.0, there.0), omega (arith, ints, inside.1, there.1))
  free-bears e x is free stays = cc

  -- an alternative that doesn't speak of an object bears that it is created or deleted
  unclaimed-bears : (e : Effect) (o : ℕ) → made_of e ≡ Some o → IsUnclaimed o n → Bears e m n
  unclaimed-bears (Life k) o is unclaimed = subst (λ j. IsUnclaimed j n) (sym (same_Some _ _ is)) unclaimed
  unclaimed-bears e o is unclaimed = cc

module _ (P : Program) (free : IsFaultless P) (notes : List Note) (p q : Point) (at : IsPoint P q) where
  -- so no such point disturbs a note that doesn't speak of the variable, or of the object
  pub free-undisturbed : (x : ℕ) → target_of (effect_at P q) ≡ Some x → StaysAt P notes q →
      All (λ n. IsFree P x n) (note_at P notes p) → Undisturbed P notes p q
  free-undisturbed x is stays free_of =
      borne-undisturbed P free notes p q at (λ k m l j n h. free-bears P _ _ (effect_at P q) x is (free_of j n h) (stays k m l))

  pub unclaimed-undisturbed : (o : ℕ) → made_of (effect_at P q) ≡ Some o → All (λ n. IsUnclaimed o n) (note_at P notes p) →
      Undisturbed P notes p q
  unclaimed-undisturbed o is unclaimed =
      borne-undisturbed P free notes p q at (λ k m l j n h. unclaimed-bears P _ _ (effect_at P q) o is (unclaimed j n h))

  -- a point that changes nothing disturbs nobody
  pub still-undisturbed : effect_at P q ≡ Nothing → Undisturbed P notes p q
  still-undisturbed still =
      let borne : AllBear (effect_at P q) (note_at P notes q) (note_at P notes p)
      = subst (λ e. AllBear e (note_at P notes q) (note_at P notes p)) (sym still) (λ k m l j n h. tt) in
      borne-undisturbed P free notes p q at borne
