-- A stronger alternative brings a weaker one in each state, and an alternative that brings another in each state is
-- stronger: each part of it shows in some state.
use Rattle.std.proofs.Common.{◌≡◌, ℕ, zero, suc, ◌<◌, ◌≤◌, List, [], ◌∷◌, length, get_or, map, Bool, true, false, refl, sym, ap, ◌∙◌, subst, arith, ⊎_elim}
use Rattle.std.specs.Prelude.{ℤ, pos, All, Any}
use Rattle.std.specs.Bool.{OnTrue, OnFalse}
use Rattle.fr_notes.proofs.Terms.{ints, get_or_past, get_or-map, cases_lt, Kind, Range, Program, IsFaultless, State, Content, Held, CanHave}
use Rattle.fr_notes.proofs.Terms.{IsWellFormed, kind_of, content_of, value_of, count_held, new_content, HasSizes, is-built, new-fits, Alternative, Note, Claim, NotHeld, Alive, Gone, HeldTimes, Meets}
use Rattle.fr_notes.proofs.Terms.{Within, HoldsOne, Holds, claim_of, range_of, CanClaim, AlternativeFits, NoteFits, Implies, ClaimImplies, IsPart, IsStronger, ImpliesSome, ends_of}
use Rattle.fr_notes.proofs.Shown.{shown, Shows, instead, instead-case, instead-same, done, least, content_for, usual, least-within, new-live, new-not_held, content_for-meets, content_for-fits, usual-shows, shown-value, shown-content, shown-formed, shown-holds, depth_for-same}
use Rattle.fr_notes.proofs.Holdings.{held-once, new-unheld}

pub on_true_weaker : {P Q : Type 0} (b : Bool) → (P → Q) → OnTrue b P → OnTrue b Q
on_true_weaker true f h = f h
on_true_weaker false f h = tt

pub on_false_weaker : {P Q : Type 0} (b : Bool) → (P → Q) → OnFalse b P → OnFalse b Q
on_false_weaker true f h = tt
on_false_weaker false f h = f h

-- a range that was read stands in the list of ends
pub ends-at : (ranges : List Range) (k : ℕ) (r : Range) → k < length ranges → r ≡ get_or ranges k r → get_or (map ends_of ranges) k (pos 0, pos 0) ≡ ends_of r
ends-at ranges k r below is = get_or-map ends_of ranges k r (pos 0, pos 0) below ∙ ap ends_of (sym is)

-- a claim that implies another brings it
pub implied-meets : (a : ℕ) (claim other : Claim) (content : Content) → ClaimImplies claim other → Meets a claim content → Meets a other content
implied-meets a (HeldTimes count) (HeldTimes other) content e m = m ∙ ap (λ n. Held a n) e
implied-meets a NotHeld NotHeld content e m = m
implied-meets a Alive NotHeld content e m = m.1
implied-meets a Gone NotHeld content e m = ap (count_held a) m
implied-meets a Alive Alive content e m = m
implied-meets a Gone Gone content e m = m
implied-meets a claim other content e m = absurd e

-- a number in a part of a range is in the range
pub part-within : (range other : ℤ × ℤ) (v : ℤ) → IsPart range other → Within range v → Within other v
part-within range other v p w = (omega (arith, ints, p.0, w.0), omega (arith, ints, p.1, w.1))

pub stronger-holds : (n m : Alternative) (a : ℕ) (S : State) → IsStronger n m → HoldsOne n a S → HoldsOne m a S
stronger-holds n m a S s h = record {
  critical = h.critical ∙ s.critical;
  suspended = h.suspended ∙ s.suspended;
  objects = λ o. implied-meets a (claim_of n o) (claim_of m o) (content_of S o) (s.claims.1 o) (h.objects o);
  variables = λ x. part-within (range_of n x) (range_of m x) (value_of S x) (s.ranges.1 x) (h.variables x);
}

-- where each alternative is stronger than one of the other note, that note holds with this one
pub implies-from_each : (P : Program) (note other : Note) → All (ImpliesSome other) note → Implies P note other
implies-from_each P note other each = λ a l S w holds.
    let k = holds.1 in
    let some = subst (ImpliesSome other) k.2 (each k.0 holds.0 k.1) in
    (some.1, (some.0, some.2, some.3), stronger-holds holds.0 some.1 a S some.4 holds.2)

-- who holds it holds it so often
own-count : (a count : ℕ) → 1 ≤ count → count_held a (Held a count) ≡ 0 → ⊥
own-count a count l e = let same = depth_for-same a count in absurd (omega (arith, same, e))

module _ (P : Program) (a : ℕ) (l : a < length P.actors) where
  -- a claim that is true of each content of which another one is, is implied by it
  claim-shown : (kind : Kind) (claim other : Claim) → HasSizes kind → CanClaim kind claim → ((content : Content) → CanHave P kind content → Meets a claim content → Meets a other content) → ClaimImplies claim other
  claim-shown kind claim other h c f =
      go claim other c f (f (content_for a kind claim) (content_for-fits P a kind claim h l c) (content_for-meets a kind claim))
    where
      go : (claim other : Claim) → CanClaim kind claim → ((content : Content) → CanHave P kind content → Meets a claim content → Meets a other content) → Meets a other (content_for a kind claim) → ClaimImplies claim other
      go (HeldTimes count) (HeldTimes other) c f m = cc
      go (HeldTimes count) NotHeld c f m = own-count a count (held-once kind count c) m
      go (HeldTimes count) Alive c f m = own-count a count (held-once kind count c) m.1
      go (HeldTimes count) Gone c f m = cc
      go NotHeld (HeldTimes other) c f m = cc
      go Alive (HeldTimes other) c f m = new-unheld a other kind m
      go Gone (HeldTimes other) c f m = cc
      go NotHeld NotHeld c f m = tt
      go Alive NotHeld c f m = tt
      go Gone NotHeld c f m = tt
      go NotHeld Alive c f m = m.0 refl
      go Alive Alive c f m = tt
      go Gone Alive c f m = m.0 refl
      go NotHeld Gone c f m = new-live kind (f (new_content kind) (new-fits P kind h) (new-not_held a kind))
      go Alive Gone c f m = new-live kind m
      go Gone Gone c f m = tt

  module _ (free : IsFaultless P) (n : Alternative) (f : AlternativeFits P n) where
    -- the state with one object's content of the caller's choice, or one variable's value
    with-content : (o : ℕ) (content : Content) → CanHave P (kind_of P o) content → Meets a (claim_of n o) content → Shows P n a done (least n) (instead o content (usual P n a))
    with-content o content can meets =
        let u = usual-shows P free n f a l in
        record {
          fits = f;
          actor = l;
          places = u.places;
          within = u.within;
          contents = λ k b. instead-case o content (usual P n a) k (λ j c. CanHave P (kind_of P j) c) can (u.contents k b);
          meets = λ k b. instead-case o content (usual P n a) k (λ j c. Meets a (claim_of n j) c) meets (u.meets k b);
        }

    with-value : (x : ℕ) (v : ℤ) → Within (range_of n x) v → Shows P n a done (instead x v (least n)) (usual P n a)
    with-value x v within =
        let u = usual-shows P free n f a l in
        record {
          fits = f;
          actor = l;
          places = u.places;
          within = λ k b. instead-case x v (least n) k (λ j w. Within (range_of n j) w) within (u.within k b);
          contents = u.contents;
          meets = u.meets;
        }

    module _ (m : Alternative) (g : AlternativeFits P m) (brings : (S : State) → IsWellFormed P S → HoldsOne n a S → HoldsOne m a S) where
      shown-by : (value : ℕ → ℤ) (content : ℕ → Content) → Shows P n a done value content → HoldsOne m a (shown P n a done value content)
      shown-by value content s = brings (shown P n a done value content) (shown-formed P n a done value content s) (shown-holds P n a done value content s)

      content-brings : (o : ℕ) → o < length P.objects → (content : Content) → CanHave P (kind_of P o) content → Meets a (claim_of n o) content → Meets a (claim_of m o) content
      content-brings o below content can meets =
          let pick = instead o content (usual P n a) in
          let h = shown-by (least n) pick (with-content o content can meets) in
          let same = shown-content P n a done (least n) pick o below ∙ instead-same o content (usual P n a) in
          subst (λ c. Meets a (claim_of m o) c) same (h.objects o)

      value-brings : (x : ℕ) → x < length P.variables → (v : ℤ) → Within (range_of n x) v → Within (range_of m x) v
      value-brings x below v within =
          let pick = instead x v (least n) in
          let h = shown-by pick (usual P n a) (with-value x v within) in
          let same = shown-value P n a done pick (usual P n a) x below ∙ instead-same x v (least n) in
          subst (λ w. Within (range_of m x) w) same (h.variables x)

      claims-shown : (o : ℕ) → ClaimImplies (claim_of n o) (claim_of m o)
      claims-shown o = ⊎_elim
          (λ below. claim-shown (kind_of P o) (claim_of n o) (claim_of m o) ((is-built P free).sizes o) (f.claims.1 o) (content-brings o below))
          (λ past.
          let left = get_or_past n.claims o NotHeld (omega (arith, f.claims.0)) in
          let right = get_or_past m.claims o NotHeld (omega (arith, g.claims.0)) in
          subst (λ c. ClaimImplies c (claim_of m o)) (sym left) (subst (λ d. ClaimImplies NotHeld d) (sym right) tt)) (cases_lt o (length P.objects))

      ranges-shown : (x : ℕ) → IsPart (range_of n x) (range_of m x)
      ranges-shown x = ⊎_elim
          (λ below. ((value-brings x below (range_of n x).0 (least-within P n f x)).0, (value-brings x below (range_of n x).1 (f.order x, omega (arith, ints))).1))
          (λ past.
          let left = get_or_past n.ranges x (pos 0, pos 0) (omega (arith, f.ranges.0)) in
          let right = get_or_past m.ranges x (pos 0, pos 0) (omega (arith, g.ranges.0)) in
          subst (λ r. IsPart r (range_of m x)) (sym left) (subst (λ s. IsPart (pos 0, pos 0) s) (sym right) (omega (arith, ints), omega (arith, ints)))) (cases_lt x (length P.variables))

      -- an alternative that brings another in each state is stronger than it
      pub stronger-shown : IsStronger n m
      stronger-shown =
          let u = usual-shows P free n f a l in
          let first = shown-holds P n a done (least n) (usual P n a) u in
          let second = shown-by (least n) (usual P n a) u in
          record {
            critical = sym first.critical ∙ second.critical;
            suspended = sym first.suspended ∙ second.suspended;
            claims = (f.claims.0 ∙ sym g.claims.0, claims-shown);
            ranges = (f.ranges.0 ∙ sym g.ranges.0, ranges-shown);
          }

-- of a note with one alternative that alternative holds
pub only-one : (m : Alternative) (a : ℕ) (S : State) → Holds (m ∷ []) a S → HoldsOne m a S
only-one m a S h = go h.0 h.1.0 h.1.1 h.1.2 h.2
  where
    go : (n : Alternative) (k : ℕ) → k < 1 → get_or (m ∷ []) k n ≡ n → HoldsOne n a S → HoldsOne m a S
    go n zero l e h = subst (λ (x : Alternative). HoldsOne x a S) (sym e) h
    go n (suc k) l e h = absurd (omega arith)

-- where an alternative is stronger than none of a plain note, the note doesn't hold with it in some state
pub implies-not : (P : Program) → IsFaultless P → (note other : Note) → NoteFits P note → NoteFits P other → length other ≤ 1 → (a : ℕ) → a < length P.actors → Any (λ n. ImpliesSome other n → ⊥) note → Implies P note other → ⊥
implies-not P free note other f g plain a l (k, n, below, is, none) implied =
    go other g plain none implied
  where
    fits : AlternativeFits P n
    fits = subst (λ (x : Alternative). AlternativeFits P x) is (f.1 k n below)

    go : (other : Note) → NoteFits P other → length other ≤ 1 → (ImpliesSome other n → ⊥) → Implies P note other → ⊥
    go [] g plain none implied =
        let u = usual-shows P free n fits a l in
        let S = shown P n a done (least n) (usual P n a) in
        let h = implied a l S (shown-formed P n a done (least n) (usual P n a) u) (n, (k, below, is), shown-holds P n a done (least n) (usual P n a) u) in
        absurd (omega (arith, h.1.1))
    go (m ∷ []) g plain none implied =
        none (0, m, omega arith, refl, stronger-shown P a l free n fits m (g.1 0 m (omega arith)) (λ S w h. only-one m a S (implied a l S w (n, (k, below, is), h))))
    go (m ∷ m' ∷ rest) g plain none implied = absurd (omega arith)
