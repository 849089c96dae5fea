-- Two alternatives, of two actors, hold in one state exactly where they exclude each other in no part.
use Rattle.std.proofs.Common.{◌≡◌, ◌≢◌, ℕ, zero, suc, ◌<◌, length, Option, Some, None, Bool, true, false, refl, sym, ap, ◌∙◌, subst, arith, inl, inr}
use Rattle.std.specs.Prelude.{◌⊎◌, ◌↔◌, Any, Contains, if◌then◌else◌, nat_eq}
use Rattle.fr_notes.proofs.Terms.{ints, clamps, eqb-true, ActorId, Point, Before, Program, IsPoint, IsFaultless, State, Content, content_of, depth_in, is-built, Alternative, Note, Claim}
use Rattle.fr_notes.proofs.Terms.{Alive, Gone, HeldTimes, Meets, HoldsOne, claim_of, NotedBy, AreTogether, AlternativeFits, NoteFits, ClaimsMeet, AreCompatible, beside, CanMeet, MeetsSome}
use Rattle.fr_rules.proofs.Formed.{point_before}
use Rattle.fr_notes.proofs.Shown.{depth_for-other}
use Rattle.fr_notes.proofs.Seen.{Site, drawn, drawn-known, usual, usual-chosen}

-- an actor with a depth is the one in the critical section
pub inside-is : (b : Bool) (depth : ℕ) → 0 < (if b then depth else 0) → b ≡ true
inside-is true depth h = refl
inside-is false depth h = absurd (omega arith)

module _ (a b : ℕ) (ne : b ≢ a) where
  -- one of two actors isn't in the critical section
  one-out : (c : Option (ℕ × ℕ)) (d e : ℕ) → depth_in c a ≡ d → depth_in c b ≡ e → (d ≡ 0) ⊎ (e ≡ 0)
  one-out None d e h k = inl (sym h)
  one-out (Some c) zero e h k = inl refl
  one-out (Some c) (suc d) e h k =
      let is : c.0 ≡ a = eqb-true c.0 a (inside-is (nat_eq c.0 a) c.1 (omega (arith, h))) in
      inr (sym k ∙ depth_for-other c.0 c.1 b (λ same. ne (same ∙ is)))

  -- claims of two actors that are true of one content
  both-meet : (content : Content) (c d : Claim) → Meets a c content → Meets b d content → ClaimsMeet c d
  both-meet content (HeldTimes n) (HeldTimes k) h g = let e = sym g ∙ h in ne cc
  both-meet content (HeldTimes n) Gone h g = let e = sym g ∙ h in cc
  both-meet content Gone (HeldTimes k) h g = let e = sym g ∙ h in cc
  both-meet content Gone Alive h g = g.0 h
  both-meet content Alive Gone h g = h.0 g
  both-meet content c d h g = tt

  -- alternatives of two actors that hold in one state are compatible
  pub compatible-from : (n m : Alternative) (S : State) → HoldsOne n a S → HoldsOne m b S → AreCompatible n m
  compatible-from n m S h k = record {
    critical = one-out S.critical n.critical m.critical h.critical k.critical;
    claims = λ o. both-meet (content_of S o) (claim_of n o) (claim_of m o) (h.objects o) (k.objects o);
    ranges = λ x. let w = h.variables x in let u = k.variables x in omega (arith, ints, clamps, w.0, w.1, u.0, u.1);
  }

-- what the code compares is that, where both fit one application
pub meet-compatible : (n m : Alternative) → CanMeet n m → AreCompatible n m
meet-compatible n m c = record { critical = c.critical; claims = c.claims.1; ranges = c.ranges.1 }

pub compatible-meet : (P : Program) (n m : Alternative) → AlternativeFits P n → AlternativeFits P m → AreCompatible n m → CanMeet n m
compatible-meet P n m f g c = record {
  critical = c.critical;
  claims = (f.claims.0 ∙ sym g.claims.0, c.claims);
  ranges = (f.ranges.0 ∙ sym g.ranges.0, c.ranges);
}

module _ (P : Program) (free : IsFaultless P) (p q : Point) (at : IsPoint P p) (there : IsPoint P q) (ne : q.actor ≢ p.actor) where
  -- alternatives that are compatible hold in one state, wherever both actors stand
  pub compatible-drawn : (n m : Alternative) → AlternativeFits P n → AlternativeFits P m → AreCompatible n m → (S : State) × NotedBy P p n S × NotedBy P q m S
  compatible-drawn n m f g c =
      let s : Site = record { app = P; known = beside n m; p = p; q = q; faultless = free; point = at; fits = record { mover = f; other = (g, c) }; there = (there, ne) } in
      let k = drawn-known s (usual s) (usual-chosen s) in
      (drawn s (usual s), k.mover, k.other)

  apart : q.actor.0 ≢ p.actor.0
  apart e = ne (let f : ℕ → ActorId = λ k. record { 0 = k } in ap f e)

  fits-in : (note : Note) (n : Alternative) → NoteFits P note → Contains note n → AlternativeFits P n
  fits-in note n f i = subst (λ (x : Alternative). AlternativeFits P x) i.2 (f.1 i.0 n i.1)

  -- notes that hold in one state hold in one in which both actors stand where it is asked
  pub together-noted : (one other : Note) → NoteFits P one → NoteFits P other → AreTogether P p.actor.0 one q.actor.0 other → (S : State) × (n : Alternative) × (m : Alternative) × Contains one n × Contains other m × NotedBy P p n S × NotedBy P q m S
  together-noted one other f g (away, S, formed, h, k) =
      let c = compatible-from p.actor.0 q.actor.0 apart h.0 k.0 S h.2 k.2 in
      let d = compatible-drawn h.0 k.0 (fits-in one h.0 f h.1) (fits-in other k.0 g k.1) c in
      (d.0, h.0, k.0, h.1, k.1, d.1, d.2)

  -- some pair of alternatives excludes each other in no part exactly where the notes hold in one state
  meet-together : (one other : Note) → NoteFits P one → NoteFits P other → Any (MeetsSome other) one → AreTogether P p.actor.0 one q.actor.0 other
  meet-together one other f g (i, n, il, is, (j, m, jl, js, meet)) =
      let d = compatible-drawn n m (fits-in one n f (i, il, is)) (fits-in other m g (j, jl, js)) (meet-compatible n m meet) in
      ((λ e. apart (sym e)), d.0, d.1.formed, (n, (i, il, is), d.1.holds), (m, (j, jl, js), d.2.holds))

  together-meet : (one other : Note) → NoteFits P one → NoteFits P other → AreTogether P p.actor.0 one q.actor.0 other → Any (MeetsSome other) one
  together-meet one other f g (away, S, formed, (n, (i, il, is), h), (m, (j, jl, js), k)) =
      let c = compatible-from p.actor.0 q.actor.0 apart n m S h k in
      (i, n, il, is, (j, m, jl, js, compatible-meet P n m (fits-in one n f (i, il, is)) (fits-in other m g (j, jl, js)) c))

-- the point before an actor's first instruction
abbrev pub first_point : ActorId → Point
first_point a = record { actor = a; pc = 0; side = Before }

pub first-there : (P : Program) → IsFaultless P → (a : ActorId) → a.0 < length P.actors → IsPoint P (first_point a)
first-there P free a l = let last = (is-built P free).ends a.0 l in point_before P a.0 0 (omega (arith, last.1))

pub together-both : (P : Program) → IsFaultless P → (a b : ActorId) → a.0 < length P.actors → b.0 < length P.actors → b ≢ a → (one other : Note) → NoteFits P one → NoteFits P other → (Any (MeetsSome other) one ↔ AreTogether P a.0 one b.0 other)
together-both P free a b l k ne one other f g =
    let p = first-there P free a l in
    let q = first-there P free b k in
    (meet-together P free (first_point a) (first_point b) p q ne one other f g, together-meet P free (first_point a) (first_point b) p q ne one other f g)
