-- Where steps by a row go: to one point at the most, whose note holds after them exactly where each alternative goes
-- well.
use Rattle.std.proofs.Common.{◌≡◌, ℕ, List, Some, None, Option, sym, ap, ◌∙◌, subst, arith, ⊎_elim, min}
use Rattle.std.specs.Prelude.{ℤ, ◌↔◌, All, Contains}
use Rattle.fr_edge.proofs.Terms.{cases_lt, Instr, Point, Program, instr_of, IsPoint, Way, Then, Else, State, At, place_of, StepBy, landing, CanStep, AlwaysLeaves, AlternativeFits, alone, Keeps}
use Rattle.fr_edge.proofs.Terms.{IsLeft, Alternative, Note, HoldsOne, note_at, IsAt, NotedBy, Goes, GoesBy, GoesWell, WayOutcome, GoesOutcome}
use Rattle.fr_notes.specs.declared.change.Change.{Change}
use Rattle.fr_rules.proofs.Places.{own-place}
use Rattle.fr_edge.proofs.Lists.{contained}

-- a step of the point's actor from a state in which it stands there lands where the table says
lands : (P : Program) (p : Point) (i : Instr) (way : Way) → instr_of P p ≡ Some i → (n : Alternative) (S : State) (c : ℤ) (T : State) → NotedBy P p n S → StepBy P way S p.actor.0 c T → place_of T p.actor.0 ≡ landing p.pc p.side i way
lands P p i way is n S c T noted t = own-place P S p.actor.0 p.pc p.side i way c T noted.at is t

module _ (P : Program) (notes : List Note) (p : Point) (i : Instr) (way : Way) (is : instr_of P p ≡ Some i) where
  at-landing : (n : Alternative) (S : State) (c : ℤ) (T : State) (t : Point) → NotedBy P p n S → StepBy P way S p.actor.0 c T → IsAt T t → t.actor ≡ p.actor → landing p.pc p.side i way ≡ At t.pc t.side
  at-landing n S c T t noted step at same =
      sym (lands P p i way is n S c T noted step) ∙ ap (λ a. place_of T a) (sym (ap (λ a. a.0) same)) ∙ at

  module _ (target : Point) (actor : target.actor ≡ p.actor) (to : landing p.pc p.side i way ≡ At target.pc target.side) where
    is-target : (n : Alternative) (S : State) (c : ℤ) (T : State) (t : Point) → NotedBy P p n S → StepBy P way S p.actor.0 c T → IsAt T t → t.actor ≡ p.actor → t ≡ target
    is-target n S c T t noted step at same =
        let f : At t.pc t.side ≡ At target.pc target.side = sym (at-landing n S c T t noted step at same) ∙ to in
        let pc : t.pc ≡ target.pc = cc in
        let side : t.side ≡ target.side = cc in
        let one : t.actor ≡ target.actor = same ∙ sym actor in
        ap (λ a. record { actor = a; pc = t.pc; side = t.side }) one ∙ ap (λ k. record { actor = target.actor; pc = k; side = t.side }) pc ∙ ap (λ s. record { actor = target.actor; pc = target.pc; side = s }) side

    arrives : (n : Alternative) (S : State) (c : ℤ) (T : State) → NotedBy P p n S → StepBy P way S p.actor.0 c T → IsAt T target
    arrives n S c T noted step = ap (λ a. place_of T a.0) actor ∙ lands P p i way is n S c T noted step ∙ to

    pub no-target : (IsPoint P target → ⊥) → WayOutcome P notes p way None
    no-target none = λ t at_t same n k h.
        absurd (none (subst (λ q. IsPoint P q) (is-target n h.0 h.1 h.2 t h.3 h.4 h.5 same) at_t))

    pub others : (t : Point) → (t ≡ target → ⊥) → GoesBy P notes p way t
    others t ne = λ same n k h. absurd (ne (is-target n h.0 h.1 h.2 t h.3 h.4 h.5 same))

    module _ (next : Note) (is_next : next ≡ note_at P notes target) where
      goes-to-target : ((n : Alternative) → Contains (note_at P notes p) n → GoesWell P p n way next) → GoesBy P notes p way target
      goes-to-target well = λ same n k h.
          let left = well n k (h.0, h.1, h.2, record { mover = h.3; other = tt }, h.4, tt) in
          (left.0, subst (λ note. Contains note left.0) is_next left.1, λ U d V by step at. left.2 U d V (record { mover = by; other = tt }) step)

      pub all-go : ((n : Alternative) → Contains (note_at P notes p) n → GoesWell P p n way next) → WayOutcome P notes p way None
      all-go well = λ t at_t same n k h.
          let e = is-target n h.0 h.1 h.2 t h.3 h.4 h.5 same in
          subst (λ q. GoesBy P notes p way q) (sym e) (goes-to-target well) same n k h

      pub missing : (((n : Alternative) → Contains (note_at P notes p) n → GoesWell P p n way next) → ⊥) → GoesBy P notes p way target → ⊥
      missing none goes = none (λ n k can.
          let left = goes actor n k (can.0, can.1, can.2, can.3.mover, can.4, arrives n can.0 can.1 can.2 can.3.mover can.4) in
          (left.0, subst (λ note. Contains note left.0) (sym is_next) left.1, λ U d V by step. left.2 U d V by.mover step (arrives n U d V by.mover step)))

-- the alternatives that say no more than the change are those that every step leaves
pub left-goes : (P : Program) (p : Point) (n : Alternative) (way : Way) (change : Change) (next : Note) → IsLeft P (alone n) p way change → All (λ m. AlternativeFits P m) next → (((m : Alternative) × Contains next m × Keeps (alone n) change m) ↔ GoesWell P p n way next)
left-goes P p n way change next left fits = (
  λ k can. (k.0, k.1, (left.keeps p tt k.0 (contained next k.0 (λ m. AlternativeFits P m) k.1 fits)).0 k.2),
  λ goes.
      let k = goes (left.can p tt) in
      (k.0, k.1, (left.keeps p tt k.0 (contained next k.0 (λ m. AlternativeFits P m) k.1 fits)).1 k.2),
)

-- both rows together
pub goes-by-ways : (P : Program) (notes : List Note) (p t : Point) → GoesBy P notes p Then t → GoesBy P notes p Else t → Goes P notes p t
goes-by-ways P notes p t works fails = λ at same n k way. go n k way same
  where
    go : (n : Alternative) → Contains (note_at P notes p) n → (way : Way) → t.actor ≡ p.actor → CanStep P (NotedBy P p n) p.actor.0 way (λ T. IsAt T t) → (m : Alternative) × Contains (note_at P notes t) m × AlwaysLeaves P (NotedBy P p n) p.actor.0 way (λ T. IsAt T t → HoldsOne m p.actor.0 T)
    go n k Then same = works same n k
    go n k Else same = fails same n k

unpoint : (P : Program) (notes : List Note) (p t : Point) → (IsPoint P t → Goes P notes p t) → Goes P notes p t
unpoint P notes p t h = λ at. h at at

fails-by : (P : Program) (notes : List Note) (p t : Point) (way : Way) → IsPoint P t → (GoesBy P notes p way t → ⊥) → Goes P notes p t → ⊥
fails-by P notes p t way at fails goes = fails (λ same n k. goes at same n k way)

-- the least of two numbers that are missed, where both rows miss one
pub both-miss : (P : Program) (notes : List Note) (p : Point) (j k : ℕ) → WayOutcome P notes p Then (Some j) → WayOutcome P notes p Else (Some k) → GoesOutcome P notes p (Some (min j k))
both-miss P notes p j k w f =
    ⊎_elim (λ lt. let e : min j k ≡ j = omega arith in
    subst (λ v. GoesOutcome P notes p (Some v)) (sym e) (w.0, w.1, w.3, fails-by P notes p w.0 Then w.1 w.4, λ other at less. goes-by-ways P notes p other (w.5 other at less) (f.5 other at (omega arith)))) (λ ge.
    let e : min j k ≡ k = omega arith in
    subst (λ v. GoesOutcome P notes p (Some v)) (sym e) (f.0, f.1, f.3, fails-by P notes p f.0 Else f.1 f.4, λ other at less. goes-by-ways P notes p other (w.5 other at (omega arith)) (f.5 other at less))) (cases_lt j k)

pub then-misses : (P : Program) (notes : List Note) (p : Point) (j : ℕ) → WayOutcome P notes p Then (Some j) → WayOutcome P notes p Else None → GoesOutcome P notes p (Some j)
then-misses P notes p j w f =
    (w.0, w.1, w.3, fails-by P notes p w.0 Then w.1 w.4, λ other at lt. goes-by-ways P notes p other (w.5 other at lt) (f other at))

pub else-outcome : (P : Program) (notes : List Note) (p : Point) (other : Option ℕ) → WayOutcome P notes p Then None → WayOutcome P notes p Else other → GoesOutcome P notes p other
else-outcome P notes p None w f = λ t. unpoint P notes p t (λ at. goes-by-ways P notes p t (w t at) (f t at))
else-outcome P notes p (Some k) w f =
    (f.0, f.1, f.3, fails-by P notes p f.0 Else f.1 f.4, λ other at lt. goes-by-ways P notes p other (w other at) (f.5 other at lt))
