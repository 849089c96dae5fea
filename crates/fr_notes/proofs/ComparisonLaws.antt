-- Least ranges of related pairs: from one relation to another that is true of the same pairs, and turned round.
use Rattle.std.proofs.Common.{◌≡◌, Bool, true, false, refl, sym, ◌∙◌, arith, Option, Some, None, IfSome, IfNone, ⊎_elim, inl, inr}
use Rattle.std.specs.Prelude.{◌≢◌, ◌<ℤ◌, ◌≤ℤ◌, ◌+ℤ◌, ℤ, pos, negsuc, IsTrue, ◌-ℤ◌, int_lt, int_le, not, ◌⊎◌}
use Rattle.std.specs.Ordering.{int_eq}
use Rattle.fr_notes.proofs.Terms.{int_min, int_max, ints, clamps, Decides-int_eq, Less, AtMost, Greater, AtLeast, Equal, NotEqual, Range, Compares, IsBelow, IsLeast, turned, AreLeast, NoPair}
use Rattle.fr_notes.proofs.Terms.{IsWithout, IsIn}

-- two relations are true of the same numbers
pub record AreSame (R Q : ℤ → ℤ → Type 0) : Type 0 where
  pub to : (x y : ℤ) → R x y → Q x y
  pub from : (x y : ℤ) → Q x y → R x y

least-same : (R Q : ℤ → ℤ → Type 0) (a b new : Range) → AreSame R Q → IsLeast R a b new → IsLeast Q a b new
least-same R Q a b new s h = record {
  inside = λ x y p. h.inside x y (p.0, p.1, s.from x y p.2);
  lo = (h.lo.0, (h.lo.1.0, h.lo.1.1, s.to _ _ h.lo.1.2));
  hi = (h.hi.0, (h.hi.1.0, h.hi.1.1, s.to _ _ h.hi.1.2));
}

turned-same : (R Q : ℤ → ℤ → Type 0) → AreSame R Q → AreSame (turned R) (turned Q)
turned-same R Q s = record { to = λ x y h. s.to y x h; from = λ x y h. s.from y x h }

pub are-least-same : (R Q : ℤ → ℤ → Type 0) (a b m n : Range) → AreSame R Q → AreLeast R a b m n → AreLeast Q a b m n
are-least-same R Q a b m n s h =
    record { left = least-same R Q a b m s h.left; right = least-same (turned R) (turned Q) b a n (turned-same R Q s) h.right }

pub are-least-turned : (R : ℤ → ℤ → Type 0) (a b m n : Range) → AreLeast R a b m n → AreLeast (turned R) b a n m
are-least-turned R a b m n h = record { left = h.right; right = h.left }

pub no-pair-same : (R Q : ℤ → ℤ → Type 0) (a b : Range) → AreSame R Q → NoPair R a b → NoPair Q a b
no-pair-same R Q a b s none x y p = none x y (p.0, p.1, s.from x y p.2)

pub no-pair-turned : (R : ℤ → ℤ → Type 0) (a b : Range) → NoPair R a b → NoPair (turned R) b a
no-pair-turned R a b none x y p = none y x (p.1, p.0, p.2)

below-lt : (x y : ℤ) → IsBelow (pos 1) x y → IsTrue (int_lt x y)
below-lt x y h = grind (arith, ints)

lt-below : (x y : ℤ) → IsTrue (int_lt x y) → IsBelow (pos 1) x y
lt-below x y h = grind (arith, ints)

below-le : (x y : ℤ) → IsBelow (pos 0) x y → IsTrue (int_le x y)
below-le x y h = grind (arith, ints)

le-below : (x y : ℤ) → IsTrue (int_le x y) → IsBelow (pos 0) x y
le-below x y h = grind (arith, ints)

is-true : (b : Bool) → IsTrue (not b) → b ≡ true → ⊥
is-true true h e = cc
is-true false h e = cc

is-not : (b : Bool) → (b ≡ true → ⊥) → IsTrue (not b)
is-not true h = absurd (h refl)
is-not false h = refl

pub less : AreSame (IsBelow (pos 1)) (Compares Less)
less = record { to = below-lt; from = lt-below }

pub at-most : AreSame (IsBelow (pos 0)) (Compares AtMost)
at-most = record { to = below-le; from = le-below }

pub greater : AreSame (turned (IsBelow (pos 1))) (Compares Greater)
greater = record { to = λ x y h. below-lt y x h; from = λ x y h. lt-below y x h }

pub at-least : AreSame (turned (IsBelow (pos 0))) (Compares AtLeast)
at-least = record { to = λ x y h. below-le y x h; from = λ x y h. le-below y x h }

pub equal : AreSame (λ x y. x ≡ y) (Compares Equal)
equal = record { to = λ x y h. (Decides-int_eq x y).1 h; from = λ x y h. (Decides-int_eq x y).0 h }

pub not-equal : AreSame (λ x y. x ≢ y) (Compares NotEqual)
not-equal = record {
  to = λ x y h. is-not (int_eq x y) (λ e. h ((Decides-int_eq x y).0 e));
  from = λ x y h e. is-true (int_eq x y) h ((Decides-int_eq x y).1 e);
}

-- an end of a range moved off a number that it is, by one inwards, or left where it is
abbrev pub IsMoved : ℤ → ℤ → ℤ → ℤ → Type 0
IsMoved end k by new = ((end ≡ k) × (new ≡ end +ℤ by)) ⊎ ((end ≢ k) × (new ≡ end))

pub without-made : (range new : Range) (k : ℤ) → IsMoved range.lo k (pos 1) new.lo → IsMoved range.hi k (negsuc 0) new.hi → IsWithout range k new
without-made range new k (inl p) (inl q) = let o = new.ordered in absurd (omega (arith, ints))
without-made range new k (inl p) (inr q) = let o = new.ordered in record { inside = λ x i ne. (above x i ne, omega (arith, ints)); lo = ((omega (arith, ints), omega (arith, ints)), λ e. omega (arith, ints)); hi = ((omega (arith, ints), omega (arith, ints)), λ e. q.0 (sym q.1 ∙ e)) }
  where
    above : (x : ℤ) → IsIn range x → x ≢ k → new.lo ≤ℤ x
    above x i ne = omega (arith, ints)
without-made range new k (inr p) (inl q) = let o = new.ordered in record { inside = λ x i ne. (omega (arith, ints), omega (arith, ints)); lo = ((omega (arith, ints), omega (arith, ints)), λ e. p.0 (sym p.1 ∙ e)); hi = ((omega (arith, ints), omega (arith, ints)), λ e. omega (arith, ints)) }
without-made range new k (inr p) (inr q) = let o = new.ordered in record { inside = λ x i ne. (omega (arith, ints), omega (arith, ints)); lo = ((omega (arith, ints), omega (arith, ints)), λ e. p.0 (sym p.1 ∙ e)); hi = ((omega (arith, ints), omega (arith, ints)), λ e. q.0 (sym q.1 ∙ e)) }

pub without-none : (range : Range) (k lo hi : ℤ) → IsMoved range.lo k (pos 1) lo → IsMoved range.hi k (negsuc 0) hi → hi <ℤ lo → (x : ℤ) → IsIn range x → x ≡ k
without-none range k lo hi (inl p) (inl q) h x i = omega (arith, ints)
without-none range k lo hi (inl p) (inr q) h x i = omega (arith, ints)
without-none range k lo hi (inr p) (inl q) h x i = omega (arith, ints)
without-none range k lo hi (inr p) (inr q) h x i = let o = range.ordered in absurd (omega (arith, ints))

-- a range of two numbers or more has one that is another than this one
pub other-number : (other : Range) (k : ℤ) → other.lo ≢ other.hi → (y : ℤ) × IsIn other y × (k ≢ y)
other-number other k apart =
    let o = other.ordered in
    ⊎_elim (λ h. (other.hi, (omega (arith, ints), omega (arith, ints)), λ e. apart (sym (h.1) ∙ e))) (λ h. (other.lo, (omega (arith, ints), omega (arith, ints)), h.1)) (tells k other.lo)
  where
    tells : (x y : ℤ) → (Unit {0} × (x ≡ y)) ⊎ (Unit {0} × (x ≢ y))
    tells x y = go (int_eq x y) refl
      where
        go : (b : Bool) → int_eq x y ≡ b → (Unit {0} × (x ≡ y)) ⊎ (Unit {0} × (x ≢ y))
        go true e = inl (tt, (Decides-int_eq x y).0 e)
        go false e = inr (tt, λ h. let f = (Decides-int_eq x y).1 h in cc)

-- beside a range of two numbers or more, a range stays
pub least-apart : (range other : Range) → other.lo ≢ other.hi → IsLeast (λ x y. x ≢ y) range other range
least-apart range other apart =
    let o = range.ordered in
    let low = other-number other range.lo apart in
    let high = other-number other range.hi apart in
    record {
      inside = λ x y p. p.0;
      lo = (low.0, ((omega (arith, ints), omega (arith, ints)), low.1, low.2));
      hi = (high.0, ((omega (arith, ints), omega (arith, ints)), high.1, high.2));
    }

-- beside a range of one number, a range is left without it
pub least-without : (range other new : Range) → other.lo ≡ other.hi → IsWithout range other.lo new → IsLeast (λ x y. x ≢ y) range other new
least-without range other new one h =
    let o = other.ordered in
    record {
      inside = λ x y p. h.inside x p.0 (λ e. p.2 (only x y p.1 e));
      lo = (other.lo, (h.lo.0, (omega (arith, ints), omega (arith, ints)), h.lo.1));
      hi = (other.lo, (h.hi.0, (omega (arith, ints), omega (arith, ints)), h.hi.1));
    }
  where
    only : (x y : ℤ) → IsIn other y → x ≡ other.lo → x ≡ y
    only x y i e = omega (arith, ints)

pub none-without : (range other : Range) → other.lo ≡ other.hi → ((x : ℤ) → IsIn range x → x ≡ other.lo) → NoPair (λ x y. x ≢ y) range other
none-without range other one h x y p = p.2 (let e = h x p.0 in let q = p.1 in omega (arith, ints))

pub if_none : {X P : Type 0} (r : Option X) → P → IfNone r P
if_none None p = p
if_none (Some x) p = tt

pub apart-turned : AreSame (turned (λ x y. x ≢ y)) (λ x y. x ≢ y)
apart-turned = record { to = λ x y h e. h (sym e); from = λ x y h e. h (sym e) }

pub turned-least : (a b new : Range) → IsLeast (λ x y. x ≢ y) a b new → IsLeast (turned (λ x y. x ≢ y)) a b new
turned-least a b new h = least-same (λ x y. x ≢ y) (turned (λ x y. x ≢ y)) a b new (record { to = λ x y p e. p (sym e); from = λ x y p e. p (sym e) }) h

pub below-made : (low high left right : Range) (gap : ℤ) → left.lo ≡ low.lo → left.hi ≡ int_min low.hi (high.hi -ℤ gap) → right.lo ≡ int_max high.lo (low.lo +ℤ gap) → right.hi ≡ high.hi → AreLeast (IsBelow gap) low high left right
below-made low high left right gap a b c d =
    let o = low.ordered in
    let p = high.ordered in
    let q = left.ordered in
    let le : (low.lo +ℤ gap) ≤ℤ high.hi = omega (arith, ints, clamps) in
    record {
      left = record {
        inside = λ x y h. (omega (arith, ints), omega (arith, ints, clamps));
        lo = (high.hi, ((omega (arith, ints), omega (arith, ints)), (omega (arith, ints), omega (arith, ints)), omega (arith, ints)));
        hi = (high.hi, ((omega (arith, ints, clamps), omega (arith, ints, clamps)), (omega (arith, ints), omega (arith, ints)), omega (arith, ints, clamps)));
      };
      right = record {
        inside = λ x y h. (omega (arith, ints, clamps), omega (arith, ints));
        lo = (low.lo, ((omega (arith, ints, clamps), omega (arith, ints, clamps)), (omega (arith, ints), omega (arith, ints)), omega (arith, ints, clamps)));
        hi = (low.lo, ((omega (arith, ints), omega (arith, ints)), (omega (arith, ints), omega (arith, ints)), omega (arith, ints)));
      };
    }

pub same-made : (a b new : Range) → new.lo ≡ int_max a.lo b.lo → new.hi ≡ int_min a.hi b.hi → AreLeast (λ x y. x ≡ y) a b new new
same-made a b new lo hi =
    let o = new.ordered in
    record {
      left = record {
        inside = λ x y h. let e = h.2 in (omega (arith, ints, clamps), omega (arith, ints, clamps));
        lo = (new.lo, ((omega (arith, ints, clamps), omega (arith, ints, clamps)), (omega (arith, ints, clamps), omega (arith, ints, clamps)), refl));
        hi = (new.hi, ((omega (arith, ints, clamps), omega (arith, ints, clamps)), (omega (arith, ints, clamps), omega (arith, ints, clamps)), refl));
      };
      right = record {
        inside = λ x y h. let e = h.2 in (omega (arith, ints, clamps), omega (arith, ints, clamps));
        lo = (new.lo, ((omega (arith, ints, clamps), omega (arith, ints, clamps)), (omega (arith, ints, clamps), omega (arith, ints, clamps)), refl));
        hi = (new.hi, ((omega (arith, ints, clamps), omega (arith, ints, clamps)), (omega (arith, ints, clamps), omega (arith, ints, clamps)), refl));
      };
    }

-- pairs the other way round
pub exchanged-some : (R : ℤ → ℤ → Type 0) (a b : Range) (r q : Option (Range × Range)) → IfSome r (λ new. AreLeast R a b new.0 new.1) → IfSome q (λ new. r ≡ Some (new.1, new.0)) → IfSome q (λ new. AreLeast (turned R) b a new.0 new.1)
exchanged-some R a b r None h k = tt
exchanged-some R a b r (Some new) h k =
    are-least-turned R a b new.1 new.0 (rw k at h)

pub exchanged-none : (R : ℤ → ℤ → Type 0) (a b : Range) (r q : Option (Range × Range)) → IfNone r (NoPair R a b) → IfNone q (r ≡ None) → IfNone q (NoPair (turned R) b a)
exchanged-none R a b r None h k = no-pair-turned R a b (rw k at h)
exchanged-none R a b r (Some new) h k = tt
