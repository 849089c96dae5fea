-- The verdict is one. Of two failures neither comes before the other, so their points have one number, and their parts
-- one place in the order. A part that fails is one that the point owes, and of those each has a place of its own.
use Rattle.std.proofs.Common.{◌≡◌, ℕ, ◌<◌, List, [], ◌∷◌, get_or, refl, sym, ap, ◌∙◌, subst, inl, inr, ⊎_elim, arith}
use Rattle.fr_judge.proofs.Terms.{same_Some, cases_lt, Point, Program, point_number, End, Writer, Reader, Rule, OneWriter, OneReader, GivenByHolder, AllowedInCritical, AllowedSuspended}
use Rattle.fr_judge.proofs.Terms.{AllowedInInterrupt, IsLive, LifeInOrder, SuitsSemaphore, DepthAboveZero, EndsInOrder, InRange, number_of, Certificate, Part, EntryPart, RulePart, GoesPart, GuardPart}
use Rattle.fr_judge.proofs.Terms.{NearPart, SpoiledPart, end_number, place_in_order, ComesBefore, Yes, No, IsFirstPart, IsVerdictOne, IsOwed}
use Rattle.fr_judge.proofs.Walks.{same-point}
use Rattle.fr_judge.proofs.Failing.{failing-owed}

abbrev rules_by_number : List Rule
rules_by_number = OneWriter ∷ OneWriter ∷ OneReader ∷ GivenByHolder ∷ AllowedInCritical ∷ AllowedSuspended ∷ AllowedInInterrupt ∷ IsLive ∷ LifeInOrder ∷ SuitsSemaphore ∷ DepthAboveZero ∷ EndsInOrder ∷ InRange ∷ []

rule-numbered : (rule : Rule) → rule ≡ get_or rules_by_number (number_of rule) OneWriter
rule-numbered OneWriter = refl
rule-numbered rule = refl

same-rule : (r s : Rule) → number_of r ≡ number_of s → r ≡ s
same-rule r s e = rule-numbered r ∙ ap (λ n. get_or rules_by_number n OneWriter) e ∙ sym (rule-numbered s)

same-end : (e f : End) → end_number e ≡ end_number f → e ≡ f
same-end Writer Writer q = refl
same-end Reader Reader q = refl
same-end e f q = absurd (omega arith)

-- neither place comes before the other
same-order : (x y : ℕ × ℕ) → (ComesBefore x y → ⊥) → (ComesBefore y x → ⊥) → (x.0 ≡ y.0) × (x.1 ≡ y.1)
same-order x y h k =
    let first : x.0 ≡ y.0 = equal x.0 y.0 (λ l. h (inl l)) (λ l. k (inl l)) in
    (first, equal x.1 y.1 (λ l. h (inr (first, l))) (λ l. k (inr (sym first, l))))
  where
    equal : (m n : ℕ) → (m < n → ⊥) → (n < m → ⊥) → m ≡ n
    equal m n f g = ⊎_elim (λ l. absurd (f l)) (λ l. ⊎_elim (λ d. absurd (g d)) (λ d. omega arith) (cases_lt n m)) (cases_lt m n)

module _ (P : Program) (C : Certificate) (p : Point) where
  same-buffer : (b c : ℕ) (e f : End) → IsOwed P p (GuardPart b e) → IsOwed P p (GuardPart c f) → b ≡ c
  same-buffer b c e f (call, (same, is), at) (other, (same', is'), at') =
      sym same ∙ ap (λ x. x.object.0) (same_Some call other (sym is ∙ is')) ∙ same'

  same-part : (a b : Part) → (place_in_order P a).0 ≡ (place_in_order P b).0 → (place_in_order P a).1 ≡ (place_in_order P b).1 → IsOwed P p a → IsOwed P p b → a ≡ b
  same-part EntryPart EntryPart e f h k = refl
  same-part (RulePart r) (RulePart s) e f h k = ap (λ n. RulePart n) (same-rule r s f)
  same-part (GoesPart t) (GoesPart u) e f h k =
      ap (λ q. GoesPart q) (same-point P t u h.0 k.0 f)
  same-part (GuardPart b x) (GuardPart c y) e f h k =
      ap (λ n. GuardPart n x) (same-buffer b c x y h k) ∙ ap (λ z. GuardPart c z) (same-end x y f)
  same-part (NearPart t) (NearPart u) e f h k =
      ap (λ q. NearPart q) (same-point P t u h.0 k.0 f)
  same-part (SpoiledPart t) (SpoiledPart u) e f h k =
      ap (λ q. SpoiledPart q) (same-point P t u h.0 k.0 f)
  same-part a b e f h k = absurd (omega arith)

  same-failure : (a b : Part) → IsFirstPart P C p a → IsFirstPart P C p b → a ≡ b
  same-failure a b h k =
      let order = same-order (place_in_order P a) (place_in_order P b) (λ l. h.fails (k.before a l)) (λ l. k.fails (h.before b l)) in
      same-part a b order.0 order.1 (failing-owed P C p a h.fails) (failing-owed P C p b k.fails)

pub one-verdict : IsVerdictOne
one-verdict P C Yes Yes h k = refl
one-verdict P C Yes (No p part) h k = absurd (k.first.fails (h p k.point part))
one-verdict P C (No p part) Yes h k = absurd (h.first.fails (k p h.point part))
one-verdict P C (No p a) (No q b) h k =
    let number : point_number P p ≡ point_number P q =
    ⊎_elim (λ l. absurd (h.first.fails (k.before p h.point l a))) (λ l. ⊎_elim (λ d. absurd (k.first.fails (h.before q k.point d b))) (λ d. omega arith) (cases_lt (point_number P q) (point_number P p))) (cases_lt (point_number P p) (point_number P q)) in
    let same = same-point P p q h.point k.point number in
    let first : IsFirstPart P C p b = subst (λ s. IsFirstPart P C s b) (sym same) k.first in
    ap (λ part. No p part) (same-failure P C p a b h.first first) ∙ ap (λ s. No s b) same
