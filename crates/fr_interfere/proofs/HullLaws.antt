-- What a hull says stays true of what it covers while it covers more, and by it no point under the hull disturbs a note
-- that it spares.
use Rattle.std.proofs.Common.{◌≡◌, ℕ, ◌+◌, ◌<◌, List, Option, Some, None, length, get_or, false, inr, refl, sym, ap, ◌∙◌, subst, arith, ⊎_elim}
use Rattle.std.specs.Prelude.{◌⊎◌, ◌↔◌, ℤ, Bool, IsTrue, IfSome, All, Any, set}
use Rattle.fr_interfere.proofs.Terms.{int_min, int_max, cases_eq, ints, clamps, length-set, get_or-set_same, get_or-set_other, get_or_default, All-contains, same_Some, ObjId, Point, VarId, Range}
use Rattle.fr_interfere.proofs.Terms.{Program, IsPoint, IsFaultless, Claim, NoteFits, IsPart, ClaimsMeet, Alternative, Note, Within, claim_of, range_of, note_at, CanMeet, RangesMeet, ends_of, Effect}
use Rattle.fr_interfere.proofs.Terms.{Gives, Sets, Hull, effect_at, target_of, Bears, Has, GivesIn, Covers, IsUnder, IsShut, IsDenied, IsApart, Excludes, IsBorne, IsBorneByEach, Spares, Undisturbed}
use Rattle.fr_effects.proofs.DisturbanceLaws.{undisturbed-spared, unmet-spares}
use Rattle.fr_effects.proofs.Lists.{contained-fits}
use Rattle.fr_interfere.proofs.UnsaidLaws.{borne-undisturbed}

-- ---- a list whose entries are made wider, one after the other

-- the entries are as wide as they were at least, and the first ones are as wide as is wanted
pub record Grown {E : Type 0} (Wider : E → E → Type 0) (Wanted : E → Type 0) (old new : List E) (bound : ℕ) : Type 0 where
  pub long : length new ≡ length old
  pub wider : (k : ℕ) (d : E) → k < length old → Wider (get_or old k d) (get_or new k d)
  pub wanted : (k : ℕ) (d : E) → k < bound → k < length old → Wanted (get_or new k d)

module _ {E : Type 0} (Wider : E → E → Type 0) (Wanted : E → Type 0) (same : (x : E) → Wider x x) (join : (x y z : E) → Wider x y → Wider y z → Wider x z) where
  pub grown-none : (old : List E) → Grown Wider Wanted old old 0
  grown-none old = record { long = refl; wider = λ k d l. same (get_or old k d); wanted = λ k d l. absurd (omega (arith, l)) }

  pub grown-more : (old new : List E) (i : ℕ) → Grown Wider Wanted old new i → i < length new → (e y : E) → Wider (get_or new i e) y → Wanted y →
      Grown Wider Wanted old (set new i y) (i + 1)
  grown-more old new i so_far there e y wide want = record {
    long = length-set new i y ∙ so_far.long;
    wider = λ k d l. ⊎_elim
        (λ here.
        let at = subst (λ j. get_or (set new i y) j d ≡ y) (sym here) (get_or-set_same new i y d there) in
        let was = get_or_default new i e d there ∙ ap (λ j. get_or new j d) (sym here) in
        subst (Wider (get_or old k d)) (sym at) (join _ _ _ (so_far.wider k d l) (subst (λ z. Wider z y) was wide)))
        (λ other. subst (Wider (get_or old k d)) (sym (get_or-set_other new i k y d other)) (so_far.wider k d l))
        (cases_eq k i);
    wanted = λ k d l long. ⊎_elim
        (λ here. subst Wanted (sym (subst (λ j. get_or (set new i y) j d ≡ y) (sym here) (get_or-set_same new i y d there))) want)
        (λ other. subst Wanted (sym (get_or-set_other new i k y d other)) (so_far.wanted k d (let apart = other in omega (arith, l, apart)) long))
        (cases_eq k i);
  }

-- the entry is of the same object, and its claim can meet what the other can meet; it can meet what the alternative's can
abbrev pub IsWiderClaim : (ObjId × Claim) → (ObjId × Claim) → Type 0
IsWiderClaim e f = (e.0 ≡ f.0) × ((c : Claim) → ClaimsMeet e.1 c → ClaimsMeet f.1 c)

abbrev pub HasClaim : Alternative → (ObjId × Claim) → Type 0
HasClaim m e = (c : Claim) → ClaimsMeet (claim_of m e.0.0) c → ClaimsMeet e.1 c

-- the entry is of the same variable, and its range has the other; it has the alternative's
abbrev pub IsWiderRange : (VarId × Range) → (VarId × Range) → Type 0
IsWiderRange e f = (e.0 ≡ f.0) × IsPart (ends_of e.1) (ends_of f.1)

abbrev pub HasRange : Alternative → (VarId × Range) → Type 0
HasRange m e = IsPart (range_of m e.0.0) (ends_of e.1)

pub same-claim : (e : ObjId × Claim) → IsWiderClaim e e
same-claim e = (refl, λ c meets. meets)

pub join-claims : (e f g : ObjId × Claim) → IsWiderClaim e f → IsWiderClaim f g → IsWiderClaim e g
join-claims e f g one other = (one.0 ∙ other.0, λ c meets. other.1 c (one.1 c meets))

pub same-range : (e : VarId × Range) → IsWiderRange e e
same-range e = (refl, (omega (arith, ints), omega (arith, ints)))

pub join-ranges : (e f g : VarId × Range) → IsWiderRange e f → IsWiderRange f g → IsWiderRange e g
join-ranges e f g one other = (one.0 ∙ other.0, (omega (arith, ints, one.1.0, other.1.0), omega (arith, ints, one.1.1, other.1.1)))

-- what a wider entry has of an alternative
pub wider-has-claim : (m : Alternative) (e f : ObjId × Claim) → IsWiderClaim e f → HasClaim m e → HasClaim m f
wider-has-claim m e f wider has = λ c meets. wider.1 c (has c (subst (λ o. ClaimsMeet (claim_of m o.0) c) (sym wider.0) meets))

pub wider-has-range : (m : Alternative) (e f : VarId × Range) → IsWiderRange e f → HasRange m e → HasRange m f
wider-has-range m e f wider has =
    let at = subst (λ x. IsPart (range_of m x.0) (ends_of e.1)) wider.0 has in
    (omega (arith, ints, at.0, wider.1.0), omega (arith, ints, at.1, wider.1.1))

-- the least range that has both has each of them
abbrev pub IsLeastOf : Range → Range → Range → Type 0
IsLeastOf one other both = (both.lo ≡ int_min one.lo other.lo) × (both.hi ≡ int_max one.hi other.hi)

pub has-one : (one other both : Range) → IsLeastOf one other both → IsPart (ends_of one) (ends_of both)
has-one one other both is = (omega (arith, ints, clamps, is.0), omega (arith, ints, clamps, is.1))

pub has-other : (one other both : Range) → IsLeastOf one other both → IsPart (ends_of other) (ends_of both)
has-other one other both is = (omega (arith, ints, clamps, is.0), omega (arith, ints, clamps, is.1))

-- where two of three are not so, it is the third that decides
pub third-decides : {A B C : Type 0} (a b c : Bool) → (IsTrue a ↔ A) → (IsTrue b ↔ B) → (IsTrue c ↔ C) → a ≡ false → b ≡ false → (IsTrue c ↔ (A ⊎ (B ⊎ C)))
third-decides a b c one two three not_one not_two = (
  λ t. inr (inr (three.0 t)),
  λ some. ⊎_elim
      (λ x. let t = one.1 x in cc)
      (λ others. ⊎_elim (λ x. let t = two.1 x in cc) three.1 others)
      some,
)

pub excludes-told : (h : Hull) (n : Alternative) (ranges : List (VarId × Range)) (claims : List (ObjId × Claim)) → ranges ≡ h.ranges.items → claims ≡ h.claims.items →
    (shut apart denied : Bool) → (IsTrue shut ↔ IsShut h n) → (IsTrue apart ↔ Any (λ e. IsApart e n) ranges) → (IsTrue denied ↔ Any (λ e. IsDenied e n) claims) →
    shut ≡ false → apart ≡ false → (IsTrue denied ↔ Excludes h n)
excludes-told h n ranges claims of_ranges of_claims shut apart denied one two three not_one not_two =
    let second = subst (λ es. IsTrue apart ↔ Any (λ e. IsApart e n) es) of_ranges two in
    let last = subst (λ es. IsTrue denied ↔ Any (λ e. IsDenied e n) es) of_claims three in
    let both = third-decides shut apart denied one second last not_one not_two in
    (λ t. record { why = both.0 t }, λ excludes. both.1 excludes.why)

-- ---- what a hull covers it covers still when it gets wider

pub covers-more : (effect : Effect) (m : Alternative) (written new : Option Range) → ((v : ℤ) → Has written v → Has new v) → GivesIn effect m written → GivesIn effect m new
covers-more (Gives x lo hi) m written new more gives = (more _ gives.0, more _ gives.1)
covers-more (Sets x l op r) m written new more gives = λ u v one other. more _ (gives u v one other)
covers-more effect m written new more gives = cc

-- ---- no point under a hull that spares a note disturbs it

module _ (h : Hull) (n : Alternative) (m : Alternative) (effect : Effect) (covers : Covers h effect m) where
  -- nothing that the hull covers can meet what it excludes
  pub excluded : Excludes h n → CanMeet m n → ⊥
  excluded excludes meet = ⊎_elim
      (λ shut. ⊎_elim (λ out. covers.critical shut.0 out) (λ out. shut.1 out) meet.critical)
      (λ others. ⊎_elim
      (λ (k, e, l, is, apart).
      let wide = subst (λ x. HasRange m x) is (covers.ranges k e l) in
      apart (meeting (range_of m e.0.0) (range_of n e.0.0) (ends_of e.1) wide (meet.ranges.1 e.0.0)))
      (λ (k, e, l, is, denied).
      let can = subst (λ x. HasClaim m x) is (covers.claims k e l) in
      denied (can (claim_of n e.0.0) (meet.claims.1 e.0.0)))
      others)
      excludes.why
    where
      meeting : (one other wide : ℤ × ℤ) → IsPart one wide → RangesMeet one other → RangesMeet wide other
      meeting one other wide part meets = omega (arith, ints, clamps, part.0, part.1, meets)

  -- an alternative that has all that is written bears what the effect writes where the covered one holds
  pub borne : (x : ℕ) → target_of effect ≡ Some x → IsBorne h x n → Bears effect m n
  borne = by_effect effect covers.written
    where
      has-all : (written : Option Range) (range : ℤ × ℤ) (v : ℤ) → IfSome written (λ r. IsPart (ends_of r) range) → Has written v → Within range v
      has-all None range v inside has = absurd has
      has-all (Some r) range v inside has = (omega (arith, ints, inside.0, has.0), omega (arith, ints, inside.1, has.1))

      by_effect : (e : Effect) → GivesIn e m h.written → (x : ℕ) → target_of e ≡ Some x → IsBorne h x n → Bears e m n
      by_effect (Gives y lo hi) gives x is bears =
          let there : IfSome h.written (λ r. IsPart (ends_of r) (range_of n y.0)) = subst (λ k. IsBorne h k n) (sym (same_Some _ _ is)) bears in
          (has-all h.written (range_of n y.0) lo there gives.0, has-all h.written (range_of n y.0) hi there gives.1)
      by_effect (Sets y l op r) gives x is bears = λ u v one other.
          let there : IfSome h.written (λ s. IsPart (ends_of s) (range_of n y.0)) = subst (λ k. IsBorne h k n) (sym (same_Some _ _ is)) bears in
          has-all h.written (range_of n y.0) _ there (gives u v one other)
      by_effect e gives x is bears = cc

module _ (P : Program) (free : IsFaultless P) (notes : List Note) (p q : Point) (at : IsPoint P q) (fits : NoteFits P (note_at P notes p)) (others : NoteFits P (note_at P notes q))
    (h : Hull) (under : IsUnder P notes h q) where
  -- the hull's points are the note's actor's own
  own : h.actor ≡ Some p.actor → Undisturbed P notes p q
  own is = λ there apart. absurd (apart (subst (λ a. IfSome a (λ b. q.actor ≡ b)) is under.actor))

  -- they can't meet the note
  unmet : All (λ n. Excludes h n) (note_at P notes p) → Undisturbed P notes p q
  unmet excludes = λ there apart. (undisturbed-spared P notes p q there apart).0
      (λ n m one other.
      let covers = All-contains (λ k. Covers h (effect_at P q) k) (note_at P notes q) m under.note other in
      unmet-spares P p q (λ e. apart (sym e)) n m (contained-fits P _ fits n one) (contained-fits P _ others m other) (note_at P notes p)
      (excluded h n m (effect_at P q) covers (All-contains (λ k. Excludes h k) (note_at P notes p) n excludes one)))
      there apart

  -- the note has all that they write
  bearing : IsBorneByEach h (note_at P notes p) → Undisturbed P notes p q
  bearing (x, one, bears) =
      let writes = subst (λ v. IfSome v (λ y. target_of (effect_at P q) ≡ Some y)) one under.variable in
      borne-undisturbed P free notes p q at (λ k m l j n i. borne h _ _ (effect_at P q) (under.note k m l) x writes (bears j n i))

  pub spared-undisturbed : Spares h p.actor (note_at P notes p) → Undisturbed P notes p q
  spared-undisturbed spares = ⊎_elim own (λ rest. ⊎_elim bearing unmet rest) spares
