-- States to show: for an alternative that fits a faultless application, and an actor of it, a state in which the
-- alternative holds of the actor. The caller chooses the places, the values and the contents, by number.
--
-- | word          | meaning                                                                                    |
-- |---------------|--------------------------------------------------------------------------------------------|
-- | shown         | the state with these places, values and contents, with the depths of an alternative        |
-- | Shows         | what the choices have to meet                                                              |
-- | instead       | a choice with one number's part replaced                                                   |
-- | done          | each actor is done                                                                         |
-- | least         | each variable is at the lower end of the alternative's range                               |
-- | content_for   | what an object of a kind has where a claim of it is true of the actor                      |
-- | usual         | the same, for each object                                                                  |
use Rattle.std.proofs.Common.{◌≡◌, ◌≢◌, ℕ, zero, suc, ◌<◌, ◌≤◌, List, length, get_or, Bool, true, false, refl, sym, subst, arith, ⊎_elim, map, eq-eqb}
use Rattle.std.specs.Prelude.{ℤ, pos, IfSome, nat_eq, if◌then◌else◌}
use Rattle.fr_notes.proofs.Terms.{range_with_len, ints, get_or_past, length-map-range_with_len, get_or-map-range_with_len, cases_lt, eqb-true, Kind, Queue, Binary, Counting, Mutex, Recursive, Stream}
use Rattle.fr_notes.proofs.Terms.{Message, Program, IsFaultless, State, Place, Done, Content, Dead, Held, CanHave, Exists, IsWellFormed, kind_of, content_of, value_of, depth_in}
use Rattle.fr_notes.proofs.Terms.{count_held, held_at, new_content, HasSizes, is-built, new-fits, Alternative, Claim, NotHeld, Alive, Gone, HeldTimes, Meets, Within, HoldsOne, claim_of}
use Rattle.fr_notes.proofs.Terms.{range_of, CanClaim, AlternativeFits}

-- the first parts of a choice, as a list
abbrev pub listed : {A : Type 0} → ℕ → (ℕ → A) → List A
listed n f = map f (range_with_len 0 n)

-- the actor's own depth, and 0 for each other one
abbrev pub depth_for : ℕ → ℕ → ℕ → ℕ
depth_for a depth b = if nat_eq a b then depth else 0

-- the state with these places, values and contents, in which this actor alone is as deep as the alternative says
abbrev pub shown : Program → Alternative → ℕ → (ℕ → Place) → (ℕ → ℤ) → (ℕ → Content) → State
shown P n a place value content = record {
  places = listed (length P.actors) place;
  values = listed (length P.variables) value;
  objects = listed (length P.objects) content;
  critical = held_at a n.critical;
  suspended = listed (length P.actors) (depth_for a n.suspended);
}

-- what the choices have to meet
pub record Shows (P : Program) (n : Alternative) (a : ℕ) (place : ℕ → Place) (value : ℕ → ℤ) (content : ℕ → Content) : Type 0 where
  pub fits : AlternativeFits P n
  pub actor : a < length P.actors
  pub places : (b : ℕ) → b < length P.actors → Exists P b (place b)
  pub within : (x : ℕ) → x < length P.variables → Within (range_of n x) (value x)
  pub contents : (o : ℕ) → o < length P.objects → CanHave P (kind_of P o) (content o)
  pub meets : (o : ℕ) → o < length P.objects → Meets a (claim_of n o) (content o)

-- an element of a list of a choice, or what stands for one past its end
pub listed-case : {A : Type 0} (n : ℕ) (f : ℕ → A) (k : ℕ) (d : A) (Q : A → Type 0) → (k < n → Q (f k)) → (n ≤ k → Q d) → Q (get_or (listed n f) k d)
listed-case n f k d Q inside past =
    ⊎_elim (λ h. subst Q (sym (get_or-map-range_with_len f 0 n k k d h (omega arith))) (inside h)) (λ h.
    subst Q (sym (get_or_past (listed n f) k d (omega (arith, length-map-range_with_len f 0 n)))) (past h)) (cases_lt k n)

pub same-test : (k : ℕ) → nat_eq k k ≡ true
same-test k = eq-eqb k k refl

pub depth_for-same : (a depth : ℕ) → depth_for a depth a ≡ depth
depth_for-same a depth = rw same-test

pub depth_for-other : (a depth b : ℕ) → b ≢ a → depth_for a depth b ≡ 0
depth_for-other a depth b ne = go (nat_eq a b) (λ e. ne (sym (eqb-true a b e)))
  where
    go : (t : Bool) → (t ≡ true → ⊥) → (if t then depth else 0) ≡ 0
    go true h = absurd (h refl)
    go false h = refl

pub held_at-same : (a depth : ℕ) → depth_in (held_at a depth) a ≡ depth
held_at-same a zero = refl
held_at-same a (suc depth) = depth_for-same a (suc depth)

pub held_at-other : (a depth b : ℕ) → b ≢ a → depth_in (held_at a depth) b ≡ 0
held_at-other a zero b ne = refl
held_at-other a (suc depth) b ne = depth_for-other a (suc depth) b ne

held_at-formed : (actors a depth : ℕ) → a < actors → IfSome (held_at a depth) (λ c. (c.0 < actors) × (1 ≤ c.1))
held_at-formed actors a zero l = tt
held_at-formed actors a (suc depth) l = (l, omega arith)

-- what the shown state has at each number
module _ (P : Program) (n : Alternative) (a : ℕ) (place : ℕ → Place) (value : ℕ → ℤ) (content : ℕ → Content) where
  pub shown-value : (x : ℕ) → x < length P.variables → value_of (shown P n a place value content) x ≡ value x
  shown-value x l = get_or-map-range_with_len value 0 (length P.variables) x x (pos 0) l (omega arith)

  pub shown-content : (o : ℕ) → o < length P.objects → content_of (shown P n a place value content) o ≡ content o
  shown-content o l = get_or-map-range_with_len content 0 (length P.objects) o o Dead l (omega arith)

  pub shown-formed : Shows P n a place value content → IsWellFormed P (shown P n a place value content)
  shown-formed s = record {
    actors = length-map-range_with_len place 0 (length P.actors);
    suspensions = length-map-range_with_len (depth_for a n.suspended) 0 (length P.actors);
    variables = length-map-range_with_len value 0 (length P.variables);
    objects = length-map-range_with_len content 0 (length P.objects);
    places = λ b. listed-case (length P.actors) place b Done (λ q. Exists P b q) (s.places b) (λ l. tt);
    contents = λ o. listed-case (length P.objects) content o Dead (λ c. CanHave P (kind_of P o) c) (s.contents o) (λ l. tt);
    critical = held_at-formed (length P.actors) a n.critical s.actor;
  }

  past-claim : AlternativeFits P n → (o : ℕ) → length P.objects ≤ o → Meets a (claim_of n o) Dead
  past-claim f o l = subst (λ c. Meets a c Dead) (sym (get_or_past n.claims o NotHeld (omega (arith, f.claims.0)))) refl

  past-range : AlternativeFits P n → (x : ℕ) → length P.variables ≤ x → Within (range_of n x) (pos 0)
  past-range f x l =
      subst (λ r. Within r (pos 0)) (sym (get_or_past n.ranges x (pos 0, pos 0) (omega (arith, f.ranges.0)))) (omega (arith, ints), omega (arith, ints))

  pub shown-holds : Shows P n a place value content → HoldsOne n a (shown P n a place value content)
  shown-holds s = record {
    critical = held_at-same a n.critical;
    suspended = listed-case (length P.actors) (depth_for a n.suspended) a 0 (λ k. k ≡ n.suspended) (λ l. depth_for-same a n.suspended) (λ l. absurd (omega (arith, s.actor)));
    objects = λ o. listed-case (length P.objects) content o Dead (λ c. Meets a (claim_of n o) c) (s.meets o) (past-claim s.fits o);
    variables = λ x. listed-case (length P.variables) value x (pos 0) (λ v. Within (range_of n x) v) (s.within x) (past-range s.fits x);
  }

-- the choice with this part at one number, and the others as before
abbrev pub instead : {A : Type 0} → ℕ → A → (ℕ → A) → ℕ → A
instead k v f j = if nat_eq j k then v else f j

-- a fact of each part of the choice
pub instead-case : {A : Type 0} (k : ℕ) (v : A) (f : ℕ → A) (j : ℕ) (Q : ℕ → A → Type 0) → Q k v → Q j (f j) → Q j (instead k v f j)
instead-case k v f j Q here there = go (nat_eq j k) (λ e. eqb-true j k e)
  where
    go : (t : Bool) → (t ≡ true → j ≡ k) → Q j (if t then v else f j)
    go true h = subst (λ i. Q i v) (sym (h refl)) here
    go false h = there

pub instead-same : {A : Type 0} (k : ℕ) (v : A) (f : ℕ → A) → instead k v f k ≡ v
instead-same k v f = rw same-test

pub instead-other : {A : Type 0} (k : ℕ) (v : A) (f : ℕ → A) (j : ℕ) → j ≢ k → instead k v f j ≡ f j
instead-other k v f j ne = go (nat_eq j k) (λ e. ne (eqb-true j k e))
  where
    go : (t : Bool) → (t ≡ true → ⊥) → (if t then v else f j) ≡ f j
    go true h = absurd (h refl)
    go false h = refl

-- each actor is done
abbrev pub done : ℕ → Place
done b = Done

-- each variable at the lower end of its range
abbrev pub least : Alternative → ℕ → ℤ
least n x = (range_of n x).0

-- what an object of this kind has where the claim of it is true of the actor
abbrev pub content_for : ℕ → Kind → Claim → Content
content_for a kind NotHeld = Dead
content_for a kind Alive = new_content kind
content_for a kind Gone = Dead
content_for a kind (HeldTimes count) = Held a count

-- the same, for each object
abbrev pub usual : Program → Alternative → ℕ → ℕ → Content
usual P n a o = content_for a (kind_of P o) (claim_of n o)

pub least-within : (P : Program) (n : Alternative) → AlternativeFits P n → (x : ℕ) → Within (range_of n x) (least n x)
least-within P n f x = (omega (arith, ints), f.order x)

-- a new object is live, and nobody holds it
pub new-live : (kind : Kind) → new_content kind ≢ Dead
new-live (Queue size lo hi) e = cc
new-live kind e = cc

pub new-not_held : (a : ℕ) (kind : Kind) → count_held a (new_content kind) ≡ 0
new-not_held a (Queue size lo hi) = refl
new-not_held a kind = refl

pub content_for-meets : (a : ℕ) (kind : Kind) (claim : Claim) → Meets a claim (content_for a kind claim)
content_for-meets a kind NotHeld = refl
content_for-meets a kind Alive = (new-live kind, new-not_held a kind)
content_for-meets a kind Gone = refl
content_for-meets a kind (HeldTimes count) = refl

pub content_for-fits : (P : Program) (a : ℕ) (kind : Kind) (claim : Claim) → HasSizes kind → a < length P.actors → CanClaim kind claim → CanHave P kind (content_for a kind claim)
content_for-fits P a kind NotHeld h l c = tt
content_for-fits P a kind Alive h l c = new-fits P kind h
content_for-fits P a kind Gone h l c = tt
content_for-fits P a Mutex (HeldTimes count) h l c = (l, c)
content_for-fits P a Recursive (HeldTimes count) h l c = (l, c.0)
content_for-fits P a (Queue size lo hi) (HeldTimes count) h l c = absurd c
content_for-fits P a Binary (HeldTimes count) h l c = absurd c
content_for-fits P a (Counting size first) (HeldTimes count) h l c = absurd c
content_for-fits P a (Stream size) (HeldTimes count) h l c = absurd c
content_for-fits P a (Message size) (HeldTimes count) h l c = absurd c

pub usual-fits : (P : Program) → IsFaultless P → (n : Alternative) → AlternativeFits P n → (a : ℕ) → a < length P.actors → (o : ℕ) → CanHave P (kind_of P o) (usual P n a o)
usual-fits P free n f a l o = content_for-fits P a (kind_of P o) (claim_of n o) ((is-built P free).sizes o) l (f.claims.1 o)

-- an alternative that fits holds of each actor in some state
pub usual-shows : (P : Program) → IsFaultless P → (n : Alternative) → AlternativeFits P n → (a : ℕ) → a < length P.actors → Shows P n a done (least n) (usual P n a)
usual-shows P free n f a l = record {
  fits = f;
  actor = l;
  places = λ b k. tt;
  within = λ x k. least-within P n f x;
  contents = λ o k. usual-fits P free n f a l o;
  meets = λ o k. content_for-meets a (kind_of P o) (claim_of n o);
}
