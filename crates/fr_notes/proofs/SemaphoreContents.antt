-- What takes and gives make of a content, beside what is known of it.
use Rattle.std.proofs.Common.{◌≡◌, ℕ, suc, ◌+◌, ◌-◌, ◌≤◌, Some, None, Bool, true, false, refl, sym, ap, subst, arith}
use Rattle.std.specs.Prelude.{◌≤ℤ◌, ℤ, pos, negsuc, IsTrue, nat_eq, nat_le, nat_lt, int_lt, if◌then◌else◌}
use Rattle.fr_notes.proofs.Terms.{eqb-true, Decides-int_eq, ints, same_Some, cond_some, common_steps, Kind, Queue, Binary, Counting, Mutex, Recursive, Stream, Message, Program, Content, Count, Free}
use Rattle.fr_notes.proofs.Terms.{Held, CanHave, taken, given, is_full, Holding, Unheld, Living, Lifeless, Own, Others, taken_by, given_by, can_be_full, is_mutex}
use Rattle.fr_notes.proofs.Shown.{same-test}
use Rattle.fr_notes.proofs.Holdings.{IsIn, held-once, content-can}
use Rattle.fr_notes.proofs.Ends.{IsTarget}

-- what holds something at all has room for the first
pub room-for : (size : ℤ) → pos 1 ≤ℤ size → int_lt (pos 0) size ≡ true
room-for size h = grind (arith, ints)

-- a live object whose content is of no mutex is in nobody's hands
pub count-in : (a b n : ℕ) → IsIn a b Living (Count n)
count-in a b n = (λ e. cc, λ k e. cc, λ k e. cc)

pub free-in : (a b : ℕ) → IsIn a b Living Free
free-in a b = (λ e. cc, λ k e. cc, λ k e. cc)

module _ (P : Program) (a b : ℕ) where
  -- after a take that works
  pub taken-in : (kind : Kind) (known new : Holding) (content made : Content) → taken_by kind known ≡ Some new → IsIn a b known content → taken kind a content ≡ Some made → IsIn a b new made
  taken-in Mutex Living new Free made t i m = subst (λ h. IsIn a b h made) (same_Some _ _ t) (sym (same_Some _ _ m), omega arith)
  taken-in Mutex Living new content made t i m = cc
  taken-in Recursive Living new Free made t i m = subst (λ h. IsIn a b h made) (same_Some _ _ t) (sym (same_Some _ _ m), omega arith)
  taken-in Recursive Living new (Held holder n) made t i m =
      let e = cond_some (nat_eq holder a) (Held a (n + 1)) made m in
      absurd (i.1 n (ap (λ k. Held k n) (eqb-true holder a e.0)))
  taken-in Recursive Living new content made t i m = cc
  taken-in Recursive (Own n) new content made t i m =
      let k : taken Recursive a (Held a n) ≡ Some made = subst (λ c. taken Recursive a c ≡ Some made) i.0 m in
      let e = cond_some (nat_eq a a) (Held a (n + 1)) made k in
      subst (λ h. IsIn a b h made) (same_Some _ _ t) (sym e.1, omega arith)
  taken-in Binary Living new (Count (suc n)) made t i m =
      subst (λ h. IsIn a b h made) (same_Some _ _ t) (subst (λ c. IsIn a b Living c) (same_Some _ _ m) (count-in a b n))
  taken-in Binary Living new content made t i m = cc
  taken-in (Counting size first) Living new (Count (suc n)) made t i m =
      subst (λ h. IsIn a b h made) (same_Some _ _ t) (subst (λ c. IsIn a b Living c) (same_Some _ _ m) (count-in a b n))
  taken-in (Counting size first) Living new content made t i m = cc
  taken-in kind known new content made t i m = cc

  -- a content before such a take
  pub take-shown : (kind : Kind) (known new : Holding) → IsTarget P a b kind known → taken_by kind known ≡ Some new → (before : Content) × CanHave P kind before × IsIn a b known before × (made : Content) × (taken kind a before ≡ Some made)
  take-shown Mutex Living new t w = (Free, tt, free-in a b, Held a 1, refl)
  take-shown Recursive Living new t w = (Free, tt, free-in a b, Held a 1, refl)
  take-shown Recursive (Own n) new t w =
      (Held a n, content-can P a b Recursive (Own n) t.sizes t.fits, (refl, held-once Recursive n t.fits.0), Held a (n + 1), rw same-test)
  take-shown Binary Living new t w = (Count 1, omega arith, count-in a b 1, Count 0, refl)
  take-shown (Counting size first) Living new t w = (Count 1, t.limits.0.0, count-in a b 1, Count 0, refl)
  take-shown kind known new t w = cc

  -- no take works on what the mover or the other actor holds, but for a recursive take of the mover's own
  pub taken-none : (kind : Kind) (known : Holding) (content made : Content) → IsTarget P a b kind known → taken_by kind known ≡ None → IsIn a b known content → taken kind a content ≡ Some made → ⊥
  taken-none Mutex (Own n) content made t w i m =
      let k : taken Mutex a (Held a n) ≡ Some made = subst (λ c. taken Mutex a c ≡ Some made) i.0 m in cc
  taken-none Mutex (Others n) content made t w i m =
      let k : taken Mutex a (Held b n) ≡ Some made = subst (λ c. taken Mutex a c ≡ Some made) i.0 m in cc
  taken-none Recursive (Others n) content made t w i m =
      let k : taken Recursive a (Held b n) ≡ Some made = subst (λ c. taken Recursive a c ≡ Some made) i.0 m in
      let e = cond_some (nat_eq b a) (Held a (n + 1)) made k in
      t.apart (eqb-true b a e.0)
  taken-none Binary (Own n) content made t w i m = t.fits.0
  taken-none Binary (Others n) content made t w i m = t.fits.0
  taken-none (Counting size first) (Own n) content made t w i m = t.fits.0
  taken-none (Counting size first) (Others n) content made t w i m = t.fits.0
  taken-none (Queue size lo hi) known content made t w i m = cc
  taken-none (Stream size) known content made t w i m = cc
  taken-none (Message size) known content made t w i m = cc
  taken-none kind Lifeless content made t w i m = t.alive
  taken-none kind Unheld content made t w i m = t.alive
  taken-none kind known content made t w i m = cc

  -- after a give that works
  back-in : (n : ℕ) (c d : Bool) → 1 ≤ n → nat_eq n 1 ≡ c → nat_le n 1 ≡ d → IsIn a b (if d then Living else Own (n - 1)) (if c then Free else Held a (n - 1))
  back-in n true true once e f = free-in a b
  back-in n false false once e f = (refl, grind (arith, common_steps))
  back-in n true false once e f = absurd (grind (arith, common_steps))
  back-in n false true once e f = absurd (grind (arith, common_steps))

  pub given-in : (kind : Kind) (known new : Holding) (content made : Content) → given_by kind known ≡ Some new → IsIn a b known content → given kind content ≡ Some made → IsIn a b new made
  given-in Mutex (Own n) new content made t i m =
      let k : given Mutex (Held a n) ≡ Some made = subst (λ c. given Mutex c ≡ Some made) i.0 m in
      subst (λ h. IsIn a b h made) (same_Some _ _ t) (subst (λ c. IsIn a b Living c) (same_Some _ _ k) (free-in a b))
  given-in Recursive (Own n) new content made t i m =
      let k : given Recursive (Held a n) ≡ Some made = subst (λ c. given Recursive c ≡ Some made) i.0 m in
      subst (λ h. IsIn a b h made) (same_Some _ _ t) (subst (λ c. IsIn a b (if nat_le n 1 then Living else Own (n - 1)) c) (same_Some _ _ k) (back-in n (nat_eq n 1) (nat_le n 1) i.1 refl refl))
  given-in Binary Living new (Count n) made t i m =
      let e = cond_some (nat_lt n 1) (Count (n + 1)) made m in
      subst (λ h. IsIn a b h made) (same_Some _ _ t) (subst (λ c. IsIn a b Living c) e.1 (count-in a b (n + 1)))
  given-in Binary Living new content made t i m = cc
  given-in (Counting size first) Living new (Count n) made t i m =
      let e = cond_some (int_lt (pos n) size) (Count (n + 1)) made m in
      subst (λ h. IsIn a b h made) (same_Some _ _ t) (subst (λ c. IsIn a b Living c) e.1 (count-in a b (n + 1)))
  given-in (Counting size first) Living new content made t i m = cc
  given-in kind known new content made t i m = cc

  pub give-shown : (kind : Kind) (known new : Holding) → IsTarget P a b kind known → given_by kind known ≡ Some new → (before : Content) × CanHave P kind before × IsIn a b known before × (made : Content) × (given kind before ≡ Some made)
  give-shown Mutex (Own n) new t w = (Held a n, content-can P a b Mutex (Own n) t.sizes t.fits, (refl, held-once Mutex n t.fits.0), Free, refl)
  give-shown Recursive (Own n) new t w =
      (Held a n, content-can P a b Recursive (Own n) t.sizes t.fits, (refl, held-once Recursive n t.fits.0), if nat_eq n 1 then Free else Held a (n - 1), refl)
  give-shown Binary Living new t w = (Count 0, omega arith, count-in a b 0, Count 1, refl)
  give-shown (Counting size first) Living new t w =
      let r = room-for size t.limits.0.0 in (Count 0, omega (arith, ints, t.limits.0.0), count-in a b 0, Count 1, rw r)
  give-shown kind known new t w = cc

  -- of a mutex that isn't known to be the mover's no give is left
  pub given-none : (kind : Kind) (known : Holding) (content made : Content) → IsTarget P a b kind known → (is_mutex kind (Some kind) ≡ true → (n : ℕ) × (known ≡ Own n)) → given_by kind known ≡ None → given kind content ≡ Some made → ⊥
  given-none Mutex known content made t own w m =
      let k : given_by Mutex (Own (own refl).0) ≡ None = subst (λ h. given_by Mutex h ≡ None) (own refl).1 w in cc
  given-none Recursive known content made t own w m =
      let k : given_by Recursive (Own (own refl).0) ≡ None = subst (λ h. given_by Recursive h ≡ None) (own refl).1 w in cc
  given-none Binary (Own n) content made t own w m = t.fits.0
  given-none Binary (Others n) content made t own w m = t.fits.0
  given-none (Counting size first) (Own n) content made t own w m = t.fits.0
  given-none (Counting size first) (Others n) content made t own w m = t.fits.0
  given-none (Queue size lo hi) known content made t own w m = cc
  given-none (Stream size) known content made t own w m = cc
  given-none (Message size) known content made t own w m = cc
  given-none kind Lifeless content made t own w m = t.alive
  given-none kind Unheld content made t own w m = t.alive
  given-none kind known content made t own w m = cc

  -- a full semaphore
  pub full-shown : (kind : Kind) (known : Holding) → IsTarget P a b kind known → can_be_full kind ≡ true → (content : Content) × CanHave P kind content × IsIn a b known content × IsTrue (is_full kind content)
  full-shown Binary Living t w = (Count 1, omega arith, count-in a b 1, refl)
  full-shown (Counting (pos n) first) Living t w =
      (Count n, omega (arith, ints), count-in a b n, (Decides-int_eq (pos n) (pos n)).1 refl)
  full-shown (Counting (negsuc n) first) Living t w = absurd (omega (arith, ints, t.limits.0.0))
  full-shown Binary (Own n) t w = absurd t.fits.0
  full-shown Binary (Others n) t w = absurd t.fits.0
  full-shown (Counting size first) (Own n) t w = absurd t.fits.0
  full-shown (Counting size first) (Others n) t w = absurd t.fits.0
  full-shown kind Lifeless t w = absurd t.alive
  full-shown kind Unheld t w = absurd t.alive
  full-shown kind known t w = cc

pub never-full : (kind : Kind) (content : Content) → can_be_full kind ≡ false → IsTrue (is_full kind content) → ⊥
never-full Binary content f t = cc
never-full (Counting size first) content f t = cc
never-full kind content f t = cc
