-- What is known before a step, for both actors alike, and states to show with it. Where no other actor is looked at, the
-- number after the last actor's stands for one, of which nothing is known: it holds nothing, and its depths are 0.
--
-- | word                    | meaning                                                                          |
-- |-------------------------|----------------------------------------------------------------------------------|
-- | Site                    | an application, what is known, and where the mover and the other actor are       |
-- | mover, other, second    | the mover, the other actor, and what is known of that one                        |
-- | Choice, drawn           | the values and contents of a state to show, and the state                        |
-- | IsChosen                | the choice is of a state with what is known                                      |
-- | usual, valued, filled   | a choice; one with another value, one with another content                       |
use Rattle.std.proofs.Common.{◌≡◌, ◌≢◌, ℕ, zero, suc, ◌<◌, ◌≤◌, length, get_or, Option, Some, None, List, [], ◌∷◌, refl, sym, ap, ◌∙◌, subst, arith, inl, inr}
use Rattle.std.specs.Prelude.{ℤ, pos, IfSome, ◌⊎◌, ◌≤ℤ◌, nat_lt}
use Rattle.fr_notes.proofs.Terms.{list_any, ints, clamps, get_or_past, length-map-range_with_len, get_or-map-range_with_len, common_steps, ActorId, Point, Kind, Queue, Binary}
use Rattle.fr_notes.proofs.Terms.{Counting, Mutex, Recursive, Stream, Message, Program, IsPoint, IsFaultless, State, Place, At, Done, Content, Dead, Held}
use Rattle.fr_notes.proofs.Terms.{CanHave, Exists, IsWellFormed, kind_of, content_of, value_of, count_held, depth_in, depth_of, suspension_of, held_at, holds_some, is-built}
use Rattle.fr_notes.proofs.Terms.{Alternative, Claim, NotHeld, Alive, Gone, HeldTimes, Meets, Within, HoldsOne, claim_of, range_of, NotedBy, CanClaim, AlternativeFits, Known, KnownFits, ClaimsMeet}
use Rattle.fr_notes.proofs.Terms.{IsOther, HasKnown, joint_range, meet_of, is_held, claims_some, holding, others_claim}
use Rattle.fr_program.proofs.InstrLemmas.{instr_at-within}
use Rattle.fr_notes.proofs.Shown.{listed, listed-case, instead, instead-case, instead-same, instead-other, held_at-same, held_at-other, depth_for-same, depth_for-other}
use Rattle.fr_notes.proofs.Holdings.{IsIn, HoldingFits, held-once, in-from, in-mover, in-other, holding-fits, content_in, content-in, content-can}

-- an application, what is known before a step in it, and where both actors are
pub record Site : Type 0 where
  pub app : Program
  pub known : Known
  pub p : Point
  pub q : Point
  pub faultless : IsFaultless app
  pub point : IsPoint app p
  pub fits : KnownFits app known
  pub there : IsOther app known p q

abbrev pub mover : Site → ℕ
mover s = s.p.actor.0

-- the other actor, or the number that stands for one
abbrev pub other_in : Program → Option Alternative → Point → ℕ
other_in P o q = elim o [ None ↦ length P.actors | Some n ↦ q.actor.0 ]

abbrev pub other : Site → ℕ
other s = other_in s.app s.known.other s.q

-- nothing is known of the one that it stands for
abbrev pub second_in : Alternative → Option Alternative → Alternative
second_in n o = elim o [ None ↦ record { critical = 0; suspended = 0; claims = []; ranges = n.ranges } | Some m ↦ m ]

abbrev pub second : Site → Alternative
second s = second_in s.known.mover s.known.other

-- a state with what is known
abbrev pub IsKnown : Site → State → Type 0
IsKnown s S = HasKnown s.app s.known s.p s.q S

pub point-there : (P : Program) (p : Point) → IsPoint P p → p.actor.0 < length P.actors
point-there P p at = instr_at-within P p.actor.0 p.pc at.0 at.1

apart-in : (P : Program) (n : Alternative) (o : Option Alternative) (p q : Point) → p.actor.0 < length P.actors → IsOther P (record { mover = n; other = o }) p q → other_in P o q ≢ p.actor.0
apart-in P n None p q l there e = absurd (omega (arith, l, e))
apart-in P n (Some m) p q l there e =
    there.1 (let f : ℕ → ActorId = λ k. record { 0 = k } in ap f e)

-- no other actor than the application's holds a mutex
holder-below : (P : Program) (kind : Kind) (holder count : ℕ) → CanHave P kind (Held holder count) → holder < length P.actors
holder-below P Mutex holder count c = c.0
holder-below P Recursive holder count c = c.0
holder-below P (Queue size lo hi) holder count c = absurd c
holder-below P Binary holder count c = absurd c
holder-below P (Counting size first) holder count c = absurd c
holder-below P (Stream size) holder count c = absurd c
holder-below P (Message size) holder count c = absurd c

nobody-holds : (P : Program) (kind : Kind) (content : Content) → CanHave P kind content → count_held (length P.actors) content ≡ 0
nobody-holds P kind (Held holder count) c =
    let below = holder-below P kind holder count c in
    depth_for-other holder count (length P.actors) (λ e. absurd (omega (arith, below, e)))
nobody-holds P kind content c = refl

can-unheld : (kind : Kind) → CanClaim kind NotHeld
can-unheld Mutex = tt
can-unheld kind = tt

meet-unheld : (c : Claim) → ClaimsMeet c NotHeld
meet-unheld NotHeld = tt
meet-unheld c = tt

within-meet : (r t : ℤ × ℤ) (v : ℤ) → Within (meet_of r t) v → Within r v × Within t v
within-meet r t v w = ((omega (arith, ints, clamps, w.0, w.1), omega (arith, ints, clamps, w.0, w.1)), (omega (arith, ints, clamps, w.0, w.1), omega (arith, ints, clamps, w.0, w.1)))

meet-within : (r t : ℤ × ℤ) (v : ℤ) → Within r v → Within t v → Within (meet_of r t) v
meet-within r t v w u = (omega (arith, ints, clamps, w.0, w.1, u.0, u.1), omega (arith, ints, clamps, w.0, w.1, u.0, u.1))

-- what is said of the second of two, by whether there is one
module _ (P : Program) (n : Alternative) where
  abbrev known_in : Option Alternative → Known
  known_in o = record { mover = n; other = o }

  second-claims : (o : Option Alternative) (j : ℕ) → KnownFits P (known_in o) → CanClaim (kind_of P j) (others_claim (known_in o) j)
  second-claims None j fits = can-unheld (kind_of P j)
  second-claims (Some m) j fits = fits.other.0.claims.1 j

  second-meets : (o : Option Alternative) (j : ℕ) → KnownFits P (known_in o) → ClaimsMeet (claim_of n j) (others_claim (known_in o) j)
  second-meets None j fits = meet-unheld (claim_of n j)
  second-meets (Some m) j fits = fits.other.1.claims j

  second-there : (o : Option Alternative) (p q : Point) (j : ℕ) → IsOther P (known_in o) p q → ((others_claim (known_in o) j ≡ NotHeld) ⊎ (other_in P o q < length P.actors))
  second-there None p q j there = inl refl
  second-there (Some m) p q j there = inr (point-there P q there.0)

  -- either the second is an actor of the application, or its depths are 0
  second-deep : (o : Option Alternative) (p q : Point) → IsOther P (known_in o) p q → ((other_in P o q < length P.actors) ⊎ ((second_in n o).critical ≡ 0))
  second-deep None p q there = inr refl
  second-deep (Some m) p q there = inl (point-there P q there.0)

  pub second-critical : (o : Option Alternative) → KnownFits P (known_in o) → ((n.critical ≡ 0) ⊎ ((second_in n o).critical ≡ 0))
  second-critical None fits = inr refl
  second-critical (Some m) fits = fits.other.1.critical

  -- a range has its ends in order, and past the last variable it is 0
  range-order : (o : Option Alternative) (x : ℕ) → KnownFits P (known_in o) → (joint_range (known_in o) x).0 ≤ℤ (joint_range (known_in o) x).1
  range-order None x fits = fits.mover.order x
  range-order (Some m) x fits = fits.other.1.ranges x

  past-range : (m : Alternative) (x : ℕ) → AlternativeFits P m → length P.variables ≤ x → range_of m x ≡ (pos 0, pos 0)
  past-range m x fits l = get_or_past m.ranges x (pos 0, pos 0) (omega (arith, fits.ranges.0))

  range-within : (o : Option Alternative) (p q : Point) (S : State) (x : ℕ) → HasKnown P (known_in o) p q S → Within (joint_range (known_in o) x) (value_of S x)
  range-within None p q S x known = known.mover.holds.variables x
  range-within (Some m) p q S x known =
      meet-within (range_of n x) (range_of m x) (value_of S x) (known.mover.holds.variables x) (known.other.holds.variables x)

  second-met : (o : Option Alternative) (p q : Point) (S : State) (j : ℕ) → HasKnown P (known_in o) p q S → Meets (other_in P o q) (others_claim (known_in o) j) (content_of S j)
  second-met None p q S j known = nobody-holds P (kind_of P j) (content_of S j) (known.mover.formed.contents j)
  second-met (Some m) p q S j known = known.other.holds.objects j

  -- the depths of the second
  second-depth : (o : Option Alternative) (p q : Point) (S : State) → HasKnown P (known_in o) p q S → depth_of S (other_in P o q) ≡ (second_in n o).critical
  second-depth None p q S known = none S.critical known.mover.formed.critical
    where
      none : (c : Option (ℕ × ℕ)) → IfSome c (λ d. (d.0 < length P.actors) × (1 ≤ d.1)) → depth_in c (length P.actors) ≡ 0
      none None h = refl
      none (Some c) h = depth_for-other c.0 c.1 (length P.actors) (λ e. absurd (omega (arith, h.0, e)))
  second-depth (Some m) p q S known = known.other.holds.critical

  second-suspension : (o : Option Alternative) (p q : Point) (S : State) → HasKnown P (known_in o) p q S → suspension_of S (other_in P o q) ≡ (second_in n o).suspended
  second-suspension None p q S known =
      get_or_past S.suspended (length P.actors) 0 (let long = known.mover.formed.suspensions in omega (arith, long))
  second-suspension (Some m) p q S known = known.other.holds.suspended

-- whether the actor holds some mutex is what its claims say
abbrev IsOnce : Claim → Type 0
IsOnce (HeldTimes count) = 1 ≤ count
IsOnce claim = Unit {0}

held-claimed : (a : ℕ) (claim : Claim) (content : Content) → IsOnce claim → Meets a claim content → nat_lt 0 (count_held a content) ≡ is_held claim
held-claimed a NotHeld content once m = ap (λ k. nat_lt 0 k) m
held-claimed a Alive content once m = ap (λ k. nat_lt 0 k) m.1
held-claimed a Gone content once m = ap (λ c. nat_lt 0 (count_held a c)) m
held-claimed a (HeldTimes count) content once m =
    let same : count_held a content ≡ count = ap (count_held a) m ∙ depth_for-same a count in
    ap (λ k. nat_lt 0 k) same ∙ grind (arith, common_steps)

once : (kind : Kind) (claim : Claim) → CanClaim kind claim → IsOnce claim
once kind (HeldTimes count) can = held-once kind count can
once kind NotHeld can = tt
once kind Alive can = tt
once kind Gone can = tt

some-claimed : (a : ℕ) (claims : List Claim) (contents : List Content) → length contents ≡ length claims → ((o : ℕ) → IsOnce (get_or claims o NotHeld)) → ((o : ℕ) → Meets a (get_or claims o NotHeld) (get_or contents o Dead)) → list_any (λ content. nat_lt 0 (count_held a content)) contents ≡ list_any is_held claims
some-claimed a [] [] e h m = refl
some-claimed a [] (c ∷ contents) e h m = absurd (omega arith)
some-claimed a (d ∷ claims) [] e h m = absurd (omega arith)
some-claimed a (d ∷ claims) (c ∷ contents) e h m =
    let one = held-claimed a d c (h 0) (m 0) in
    let rest = some-claimed a claims contents (omega arith) (λ o. h (suc o)) (λ o. m (suc o)) in
    rw (one, rest)

pub holds-claimed : (P : Program) (n : Alternative) (a : ℕ) (S : State) → AlternativeFits P n → IsWellFormed P S → HoldsOne n a S → holds_some S a ≡ claims_some n.claims
holds-claimed P n a S fits formed holds =
    let long = formed.objects in
    some-claimed a n.claims S.objects (omega (arith, long, fits.claims.0)) (λ o. once (kind_of P o) (claim_of n o) (fits.claims.1 o)) holds.objects

-- the values and contents of a state to show, by number
pub record Choice : Type 0 where
  pub value : ℕ → ℤ
  pub content : ℕ → Content

-- who is in the critical section where one actor is at one depth and another at another, of which one is 0
abbrev pub critical_for : ℕ → ℕ → ℕ → ℕ → Option (ℕ × ℕ)
critical_for a zero b d = held_at b d
critical_for a (suc c) b d = Some (a, suc c)

critical-mover : (a c b d : ℕ) → b ≢ a → depth_in (critical_for a c b d) a ≡ c
critical-mover a zero b d ne = held_at-other b d a (λ e. ne (sym e))
critical-mover a (suc c) b d ne = held_at-same a (suc c)

critical-other : (a c b d : ℕ) → b ≢ a → ((c ≡ 0) ⊎ (d ≡ 0)) → depth_in (critical_for a c b d) b ≡ d
critical-other a zero b d ne one = held_at-same b d
critical-other a (suc c) b d ne (inl e) = cc
critical-other a (suc c) b d ne (inr e) = held_at-other a (suc c) b ne ∙ sym e

critical-formed : (actors a c b d : ℕ) → a < actors → ((b < actors) ⊎ (d ≡ 0)) → IfSome (critical_for a c b d) (λ x. (x.0 < actors) × (1 ≤ x.1))
critical-formed actors a zero b zero la lb = tt
critical-formed actors a zero b (suc d) la (inl lb) = (lb, omega arith)
critical-formed actors a zero b (suc d) la (inr e) = cc
critical-formed actors a (suc c) b d la lb = (la, omega arith)

-- the other actor's place: where none is looked at, each of them is done
abbrev pub others_place : Option Alternative → Point → ℕ → Place
others_place o q = elim o [ None ↦ (λ c. Done) | Some n ↦ instead q.actor.0 (At q.pc q.side) (λ c. Done) ]

-- the state with these values and contents, and with places and depths as they are known
abbrev pub drawn : Site → Choice → State
drawn s f = record {
  places = listed (length s.app.actors) (instead (mover s) (At s.p.pc s.p.side) (others_place s.known.other s.q));
  values = listed (length s.app.variables) f.value;
  objects = listed (length s.app.objects) f.content;
  critical = critical_for (mover s) s.known.mover.critical (other s) (second s).critical;
  suspended = listed (length s.app.actors) (instead (mover s) s.known.mover.suspended (instead (other s) (second s).suspended (λ c. 0)));
}

-- the choice is of a state with what is known
pub record IsChosen (s : Site) (f : Choice) : Type 0 where
  pub within : (x : ℕ) → Within (joint_range s.known x) (f.value x)
  pub contents : (o : ℕ) → CanHave s.app (kind_of s.app o) (f.content o)
  pub inside : (o : ℕ) → IsIn (mover s) (other s) (holding s.known o) (f.content o)

module _ (s : Site) where
  abbrev P : Program
  P = s.app

  abbrev n : Alternative
  n = s.known.mover

  pub mover-there : mover s < length P.actors
  mover-there = point-there P s.p s.point

  pub apart : other s ≢ mover s
  apart = apart-in P n s.known.other s.p s.q mover-there s.there

  pub claims-meet : (o : ℕ) → ClaimsMeet (claim_of n o) (others_claim s.known o)
  claims-meet o = second-meets P n s.known.other o s.fits

  pub known-fits : (o : ℕ) → HoldingFits P (mover s) (other s) (kind_of P o) (holding s.known o)
  known-fits o = holding-fits P (mover s) (other s) (kind_of P o) (claim_of n o) (others_claim s.known o) (s.fits.mover.claims.1 o) (second-claims P n s.known.other o s.fits) mover-there (second-there P n s.known.other s.p s.q o s.there)

  -- what is known, in words of both actors' holdings
  module _ (S : State) (known : IsKnown s S) where
    pub contents-in : (o : ℕ) → IsIn (mover s) (other s) (holding s.known o) (content_of S o)
    contents-in o = in-from P (kind_of P o) (mover s) (other s) (content_of S o) (known.mover.formed.contents o) (claim_of n o) (others_claim s.known o) (s.fits.mover.claims.1 o) (second-claims P n s.known.other o s.fits) (known.mover.holds.objects o) (second-met P n s.known.other s.p s.q S o known)

    pub values-within : (x : ℕ) → Within (joint_range s.known x) (value_of S x)
    values-within x = range-within P n s.known.other s.p s.q S x known

    pub other-depth : depth_of S (other s) ≡ (second s).critical
    other-depth = second-depth P n s.known.other s.p s.q S known

    pub other-suspension : suspension_of S (other s) ≡ (second s).suspended
    other-suspension = second-suspension P n s.known.other s.p s.q S known

    pub holds-known : holds_some S (mover s) ≡ claims_some n.claims
    holds-known = holds-claimed P n (mover s) S s.fits.mover known.mover.formed known.mover.holds

  module _ (f : Choice) where
    pub drawn-value : (x : ℕ) → x < length P.variables → value_of (drawn s f) x ≡ f.value x
    drawn-value x l = get_or-map-range_with_len f.value 0 (length P.variables) x x (pos 0) l (omega arith)

    pub drawn-content : (o : ℕ) → o < length P.objects → content_of (drawn s f) o ≡ f.content o
    drawn-content o l = get_or-map-range_with_len f.content 0 (length P.objects) o o Dead l (omega arith)

    pub drawn-values : length (drawn s f).values ≡ length P.variables
    drawn-values = length-map-range_with_len f.value 0 (length P.variables)

    places-exist : (o : Option Alternative) → IsOther P (record { mover = n; other = o }) s.p s.q → (b : ℕ) → Exists P b (instead (mover s) (At s.p.pc s.p.side) (others_place o s.q) b)
    places-exist None there b = instead-case (mover s) (At s.p.pc s.p.side) (λ c. Done) b (λ k t. Exists P k t) s.point tt
    places-exist (Some m) there b = instead-case (mover s) (At s.p.pc s.p.side) (instead s.q.actor.0 (At s.q.pc s.q.side) (λ c. Done)) b (λ k t. Exists P k t) s.point (instead-case s.q.actor.0 (At s.q.pc s.q.side) (λ c. Done) b (λ k t. Exists P k t) there.0 tt)

    module _ (chosen : IsChosen s f) where
      drawn-formed : IsWellFormed P (drawn s f)
      drawn-formed = record {
        actors = length-map-range_with_len (instead (mover s) (At s.p.pc s.p.side) (others_place s.known.other s.q)) 0 (length P.actors);
        suspensions = length-map-range_with_len (instead (mover s) s.known.mover.suspended (instead (other s) (second s).suspended (λ c. 0))) 0 (length P.actors);
        variables = length-map-range_with_len f.value 0 (length P.variables);
        objects = length-map-range_with_len f.content 0 (length P.objects);
        places = λ b. listed-case (length P.actors) (instead (mover s) (At s.p.pc s.p.side) (others_place s.known.other s.q)) b Done (λ t. Exists P b t) (λ l. places-exist s.known.other s.there b) (λ l. tt);
        contents = λ o. listed-case (length P.objects) f.content o Dead (λ c. CanHave P (kind_of P o) c) (λ l. chosen.contents o) (λ l. tt);
        critical = critical-formed (length P.actors) (mover s) n.critical (other s) (second s).critical mover-there (second-deep P n s.known.other s.p s.q s.there);
      }

      in-drawn : (o : ℕ) → IsIn (mover s) (other s) (holding s.known o) (f.content o)
      in-drawn o = chosen.inside o

      mover-noted : NotedBy P s.p n (drawn s f)
      mover-noted = record {
        formed = drawn-formed;
        at = get_or-map-range_with_len (instead (mover s) (At s.p.pc s.p.side) (others_place s.known.other s.q)) 0 (length P.actors) (mover s) (mover s) Done mover-there (omega arith) ∙ instead-same (mover s) (At s.p.pc s.p.side) (others_place s.known.other s.q);
        holds = record {
          critical = critical-mover (mover s) n.critical (other s) (second s).critical apart;
          suspended = listed-case (length P.actors) (instead (mover s) n.suspended (instead (other s) (second s).suspended (λ c. 0))) (mover s) 0 (λ d. d ≡ n.suspended) (λ l. instead-same (mover s) n.suspended (instead (other s) (second s).suspended (λ c. 0))) (λ l. absurd (omega (arith, mover-there)));
          objects = λ o. listed-case (length P.objects) f.content o Dead (λ c. Meets (mover s) (claim_of n o) c) (λ l. in-mover (mover s) (other s) apart (f.content o) (claim_of n o) (others_claim s.known o) (claims-meet o) (in-drawn o)) (λ l.
              subst (λ c. Meets (mover s) c Dead) (sym (get_or_past n.claims o NotHeld (omega (arith, s.fits.mover.claims.0)))) refl);
          variables = λ x. listed-case (length P.variables) f.value x (pos 0) (λ v. Within (range_of n x) v) (λ l. first-within s.known.other x (f.value x) (chosen.within x)) (λ l.
              subst (λ r. Within r (pos 0)) (sym (past-range P n n x s.fits.mover l)) (omega (arith, ints), omega (arith, ints)));
        };
      }
        where
          first-within : (o : Option Alternative) (x : ℕ) (v : ℤ) → Within (joint_range (record { mover = n; other = o }) x) v → Within (range_of n x) v
          first-within None x v w = w
          first-within (Some m) x v w = (within-meet (range_of n x) (range_of m x) v w).0

      -- the other actor's part, where one is looked at
      module _ (m : Alternative) (e : s.known.other ≡ Some m) where
        same-actor : other s ≡ s.q.actor.0
        same-actor = ap (λ (o : Option Alternative). other_in P o s.q) e

        same-second : second s ≡ m
        same-second = ap (λ (o : Option Alternative). second_in n o) e

        same-claim : (j : ℕ) → others_claim s.known j ≡ claim_of m j
        same-claim j = ap (λ (o : Option Alternative). others_claim (record { mover = n; other = o }) j) e

        there : IsOther P (record { mover = n; other = Some m }) s.p s.q
        there = subst (λ (o : Option Alternative). IsOther P (record { mover = n; other = o }) s.p s.q) e s.there

        fits : KnownFits P (record { mover = n; other = Some m })
        fits = subst (λ (o : Option Alternative). KnownFits P (record { mover = n; other = o })) e s.fits

        there-place : instead (mover s) (At s.p.pc s.p.side) (others_place s.known.other s.q) s.q.actor.0 ≡ At s.q.pc s.q.side
        there-place =
            instead-other (mover s) (At s.p.pc s.p.side) (others_place s.known.other s.q) s.q.actor.0 (λ k. apart (same-actor ∙ k))
            ∙ ap (λ (o : Option Alternative). others_place o s.q s.q.actor.0) e ∙ instead-same s.q.actor.0 (At s.q.pc s.q.side) (λ c. Done)

        there-suspension : instead (mover s) n.suspended (instead (other s) (second s).suspended (λ c. 0)) s.q.actor.0 ≡ m.suspended
        there-suspension =
            subst (λ b. instead (mover s) n.suspended (instead (other s) (second s).suspended (λ c. 0)) b ≡ m.suspended) same-actor
            (instead-other (mover s) n.suspended (instead (other s) (second s).suspended (λ c. 0)) (other s) apart ∙ instead-same (other s) (second s).suspended (λ c. 0) ∙ ap (λ k. k.suspended) same-second)

        there-met : (o : ℕ) → Meets s.q.actor.0 (claim_of m o) (f.content o)
        there-met o =
            subst (λ b. Meets b (claim_of m o) (f.content o)) same-actor
            (subst (λ d. Meets (other s) d (f.content o)) (same-claim o) (in-other (mover s) (other s) apart (f.content o) (claim_of n o) (others_claim s.known o) (claims-meet o) (in-drawn o)))

        there-within : (x : ℕ) → Within (range_of m x) (f.value x)
        there-within x =
            (within-meet (range_of n x) (range_of m x) (f.value x) (subst (λ (o : Option Alternative). Within (joint_range (record { mover = n; other = o }) x) (f.value x)) e (chosen.within x))).1

        second-noted : NotedBy P s.q m (drawn s f)
        second-noted = record {
          formed = drawn-formed;
          at = get_or-map-range_with_len (instead (mover s) (At s.p.pc s.p.side) (others_place s.known.other s.q)) 0 (length P.actors) s.q.actor.0 s.q.actor.0 Done (point-there P s.q there.0) (omega arith) ∙ there-place;
          holds = record {
            critical = subst (λ b. depth_in (critical_for (mover s) n.critical (other s) (second s).critical) b ≡ m.critical) same-actor
                (critical-other (mover s) n.critical (other s) (second s).critical apart (second-critical P n s.known.other s.fits) ∙ ap (λ k. k.critical) same-second);
            suspended = listed-case (length P.actors) (instead (mover s) n.suspended (instead (other s) (second s).suspended (λ c. 0))) s.q.actor.0 0 (λ d. d ≡ m.suspended) (λ l. there-suspension) (λ l. let below = point-there P s.q there.0 in absurd (omega (arith, below, l)));
            objects = λ o. listed-case (length P.objects) f.content o Dead (λ c. Meets s.q.actor.0 (claim_of m o) c) (λ l. there-met o) (λ l.
                subst (λ c. Meets s.q.actor.0 c Dead) (sym (get_or_past m.claims o NotHeld (let long = fits.other.0.claims.0 in omega (arith, long, l)))) refl);
            variables = λ x. listed-case (length P.variables) f.value x (pos 0) (λ v. Within (range_of m x) v) (λ l. there-within x) (λ l.
                subst (λ r. Within r (pos 0)) (sym (past-range P n m x fits.other.0 l)) (omega (arith, ints), omega (arith, ints)));
          };
        }

      both-noted : (o : Option Alternative) → s.known.other ≡ o → IfSome o (λ m. NotedBy P s.q m (drawn s f))
      both-noted None e = tt
      both-noted (Some m) e = second-noted m e

      pub drawn-known : IsKnown s (drawn s f)
      drawn-known = record { mover = mover-noted; other = both-noted s.known.other refl }

  -- each variable at the lower end of its range
  abbrev pub usual : Choice
  usual = record {
    value = λ x. (joint_range s.known x).0;
    content = λ o. content_in (mover s) (other s) (kind_of P o) (holding s.known o);
  }

  pub usual-chosen : IsChosen s usual
  usual-chosen = record {
    within = λ x. (omega (arith, ints), range-order P n s.known.other x s.fits);
    contents = λ o. content-can P (mover s) (other s) (kind_of P o) (holding s.known o) ((is-built P s.faultless).sizes o) (known-fits o);
    inside = λ o. content-in P (mover s) (other s) (kind_of P o) (holding s.known o) (known-fits o);
  }

-- one value, one content of the choice replaced
abbrev pub valued : ℕ → ℤ → Choice → Choice
valued x v f = record f { value = instead x v f.value }

abbrev pub filled : ℕ → Content → Choice → Choice
filled o c f = record f { content = instead o c f.content }

module _ (s : Site) (f : Choice) (chosen : IsChosen s f) where
  pub valued-chosen : (x : ℕ) (v : ℤ) → Within (joint_range s.known x) v → IsChosen s (valued x v f)
  valued-chosen x v w = record {
    within = λ y. instead-case x v f.value y (λ j z. Within (joint_range s.known j) z) w (chosen.within y);
    contents = chosen.contents;
    inside = chosen.inside;
  }

  pub filled-chosen : (o : ℕ) (c : Content) → CanHave s.app (kind_of s.app o) c → IsIn (mover s) (other s) (holding s.known o) c → IsChosen s (filled o c f)
  filled-chosen o c can i = record {
    within = chosen.within;
    contents = λ j. instead-case o c f.content j (λ k d. CanHave s.app (kind_of s.app k) d) can (chosen.contents j);
    inside = λ j. instead-case o c f.content j (λ k d. IsIn (mover s) (other s) (holding s.known k) d) i (chosen.inside j);
  }
