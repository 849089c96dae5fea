-- Edges, as they are looked for point by point.
use Rattle.std.proofs.Common.{◌≡◌, ◌<◌, ◌≤◌, ◌+◌, ℕ, zero, suc, List, [], ◌∷◌, ◌++◌, length, get_or, Option, Some, true, false, refl, sym, ap, ◌∙◌, subst, ⊎_elim, arith}
use Rattle.std.specs.Prelude.{Contains, slice_get, nat_eq, not, ◌&&◌}
use Rattle.std.proofs.lemmas.Option.{same_Some, slice_get_within}
use Rattle.std.proofs.lemmas.Bool.{and_parts, and_right, eqb-true, eq-eqb}
use Rattle.fr_order.proofs.Terms.{cases_lt, eqb_tells, All-contains, All-push, All-weaker, Contains-append_left, Contains-push, Point, Inside, Kind, Mutex, Recursive, Program, IsPoint, HasSide}
use Rattle.fr_order.proofs.Terms.{instr_of, kind_of, Claim, NotHeld, HeldTimes, Note, note_at, is_any_mutex, Edge, ComesBefore, IsEnd, IsInsideTake, IsEdge, IsOrderOf, NamesThings}
use Rattle.fr_order.proofs.Terms.{waits_to_take, inside_take, inside_any_take, can_be_edge, AreInside, HasTakesBelow, AreTakes, ArePoints, AreAllTakes, CanBeEdge, IsEdgeOf, AreEdges, HasEdge}
use Rattle.fr_order.proofs.Terms.{HasEdgesBelow, HasEdgesFrom}
use Rattle.fr_program.specs.declared.instr.Instr.{Instr}
use Rattle.fr_program.specs.declared.instr.Instr.TheVariants.{Call as Calls}
use Rattle.fr_program.specs.declared.instr.Call.TheVariants.{On}
use Rattle.fr_program.specs.declared.instr.Act.{Act}
use Rattle.fr_program.specs.declared.instr.Act.TheVariants.{Try}
use Rattle.fr_program.specs.declared.instr.Attempt.TheVariants.{Take}
use Rattle.fr_program.specs.declared.instr.SemaphoreForm.{SemaphoreForm}
use Rattle.fr_program.specs.declared.instr.Timing.{Timing}
use Rattle.fr_program.specs.declared.instr.Timing.TheVariants.{Waits}
use Rattle.fr_program.specs.declared.instr.BlockTime.TheVariants.{MaxDelay}
use Rattle.fr_program.specs.declared.ids.Side.{Side}
use Rattle.fr_program.specs.Fault.{IsFaultless}
use Rattle.fr_program.specs.Points.{points_of, point_number}
use Rattle.fr_program.proofs.PointLaws.{points_are_numbered}
use Rattle.fr_notes.specs.Fits.{NotesFit, AlternativeFits}
use Rattle.fr_ends.specs.Certificate.{Certificate}
use Rattle.fr_order.specs.declared.order.Order.{Order}
use Rattle.fr_order.specs.declared.order.Order.TheVariants.{Upwards, Cycle}
use Rattle.fr_order.specs.Settled.{IsSettled}

-- ---- takes

by-parts : (act : Act) (timing : Timing) → waits_to_take act timing ≡ true → (form : SemaphoreForm) × (or_else : Option ℕ) × (act ≡ Try (Take form) or_else) × (timing ≡ Waits MaxDelay)
by-parts (Try (Take form) or_else) (Waits MaxDelay) e = (form, or_else, refl, refl)
by-parts act timing e = absurd (cc)

pub inside-yes : (P : Program) (p : Point) (m : ℕ) → inside_take p.side (instr_of P p) m ≡ true → IsInsideTake P p m
inside-yes P p m = go p.side (instr_of P p) refl refl
  where
    go : (s : Side) (i : Option Instr) → p.side ≡ s → instr_of P p ≡ i → inside_take s i m ≡ true → IsInsideTake P p m
    go Inside (Some (Calls (On call))) at is e =
        let both = and_parts (nat_eq call.object.0 m) (waits_to_take call.act call.timing) e in
        let parts = by-parts call.act call.timing both.1 in
        record {
          side = at;
          call = call;
          is = is;
          takes = record { form = parts.0; or_else = parts.1; object = eqb-true _ _ both.0; act = parts.2; timing = parts.3 };
        }
    go s i at is e = absurd (cc)

pub inside-says : (P : Program) (p : Point) (m : ℕ) → IsInsideTake P p m → inside_take p.side (instr_of P p) m ≡ true
inside-says P p m t =
    let k = t.takes in
    let waits : waits_to_take t.call.act t.call.timing ≡ true = ap (λ a. waits_to_take a t.call.timing) k.act ∙ ap (λ x. waits_to_take (Try (Take k.form) k.or_else) x) k.timing in
    let same : nat_eq t.call.object.0 m ≡ true = eq-eqb _ _ k.object in
    ap (λ s. inside_take s (instr_of P p) m) t.side ∙ ap (λ i. inside_take Inside i m) t.is ∙ ap (λ b. b && waits_to_take t.call.act t.call.timing) same ∙ waits

pub takes-more : (P : Program) (m : ℕ) (takes : List ℕ) (n : ℕ) (p : Point) → n < length (points_of P) → slice_get (points_of P) n ≡ Some p → IsInsideTake P p m → AreInside P m takes → AreInside P m (takes ++ n ∷ [])
takes-more P m takes n p l at t inside =
    All-push (λ k. (k < length (points_of P)) × ((q : Point) → slice_get (points_of P) k ≡ Some q → IsInsideTake P q m)) takes n inside (l, λ q e. subst (λ r. IsInsideTake P r m) (same_Some _ _ (sym at ∙ e)) t)

pub below-more : (P : Program) (m : ℕ) (takes : List ℕ) (n : ℕ) → HasTakesBelow P m takes n → HasTakesBelow P m (takes ++ n ∷ []) (n + 1)
below-more P m takes n below = λ k l p at t.
    ⊎_elim
    (λ less. Contains-append_left takes (n ∷ []) k (below k less p at t))
    (λ h. let same : n ≡ k = omega (arith, l, h) in subst (λ j. Contains (takes ++ n ∷ []) j) same (Contains-push takes n))
    (cases_lt k n)

pub below-other : (P : Program) (m : ℕ) (takes : List ℕ) (n : ℕ) (p : Point) → slice_get (points_of P) n ≡ Some p → inside_take p.side (instr_of P p) m ≡ false → HasTakesBelow P m takes n → HasTakesBelow P m takes (n + 1)
below-other P m takes n p at out below = λ k l q is t.
    ⊎_elim
    (λ less. below k less q is t)
    (λ h.
    let same : k ≡ n = omega (arith, l, h) in
    let one : q ≡ p = same_Some _ _ (sym is ∙ ap (λ j. slice_get (points_of P) j) same ∙ at) in
    let yes = inside-says P p m (subst (λ r. IsInsideTake P r m) one t) in absurd (cc))
    (cases_lt k n)

pub below-all : (P : Program) (m : ℕ) (takes : List ℕ) (n more : ℕ) → more ≤ n → HasTakesBelow P m takes n → HasTakesBelow P m takes more
below-all P m takes n more le below = λ k l. below k (omega (arith, l, le))

-- where the actor is inside no take at all, it is inside none of this object
pub not-inside : (s : Side) (i : Option Instr) (m : ℕ) → inside_any_take s i ≡ false → inside_take s i m ≡ false
not-inside Inside (Some (Calls (On call))) m e = ap (λ b. nat_eq call.object.0 m && b) e ∙ and_right (nat_eq call.object.0 m) false refl
not-inside s i m e = refl

pub points-more : (P : Program) (takes : List ℕ) (n : ℕ) → n < length (points_of P) → ArePoints P takes → ArePoints P (takes ++ n ∷ [])
points-more P takes n l points = All-push (λ k. k < length (points_of P)) takes n points l

-- of the first n of these numbers, those of points inside a take of the object are among the takes
abbrev pub HasTakesAmong : Program → ℕ → List ℕ → List ℕ → ℕ → Type 0
HasTakesAmong P m all takes n = (i : ℕ) → i < n → (p : Point) → slice_get (points_of P) (get_or all i 0) ≡ Some p → IsInsideTake P p m → Contains takes (get_or all i 0)

pub among-more : (P : Program) (m : ℕ) (all takes : List ℕ) (n : ℕ) → HasTakesAmong P m all takes n → HasTakesAmong P m all (takes ++ get_or all n 0 ∷ []) (n + 1)
among-more P m all takes n among = λ i l p at t.
    ⊎_elim
    (λ less. Contains-append_left takes (get_or all n 0 ∷ []) (get_or all i 0) (among i less p at t))
    (λ h. let same : n ≡ i = omega (arith, l, h) in subst (λ j. Contains (takes ++ get_or all n 0 ∷ []) (get_or all j 0)) same (Contains-push takes (get_or all n 0)))
    (cases_lt i n)

pub among-other : (P : Program) (m : ℕ) (all takes : List ℕ) (n : ℕ) (p : Point) → slice_get (points_of P) (get_or all n 0) ≡ Some p → inside_take p.side (instr_of P p) m ≡ false → HasTakesAmong P m all takes n → HasTakesAmong P m all takes (n + 1)
among-other P m all takes n p at out among = λ i l q is t.
    ⊎_elim
    (λ less. among i less q is t)
    (λ h.
    let same : i ≡ n = omega (arith, l, h) in
    let one : q ≡ p = same_Some _ _ (sym is ∙ ap (λ j. slice_get (points_of P) (get_or all j 0)) same ∙ at) in
    let yes = inside-says P p m (subst (λ r. IsInsideTake P r m) one t) in absurd (cc))
    (cases_lt i n)

pub among-whole : (P : Program) (m : ℕ) (all takes : List ℕ) (n : ℕ) → length all ≤ n → HasTakesAmong P m all takes n → HasTakesAmong P m all takes (length all)
among-whole P m all takes n le among = λ i l. among i (omega (arith, l, le))

pub among-all : (P : Program) (m : ℕ) (all takes : List ℕ) → AreAllTakes P all → HasTakesAmong P m all takes (length all) → HasTakesBelow P m takes (length (points_of P))
among-all P m all takes a among = λ k l p at t.
    let c = a.all m k l p at t in
    let is : get_or all c.0 0 ≡ k = any all c.0 c.1 k ∙ c.2 in
    subst (λ j. Contains takes j) is (among c.0 c.1 p (subst (λ j. slice_get (points_of P) j ≡ Some p) (sym is) at) t)
  where
    any : (xs : List ℕ) (k : ℕ) → k < length xs → (d : ℕ) → get_or xs k 0 ≡ get_or xs k d
    any [] k l d = absurd (omega arith)
    any (x ∷ xs) zero l d = refl
    any (x ∷ xs) (suc k) l d = any xs k (omega arith) d

-- ---- kinds

pub can-no : (P : Program) (h m : ℕ) → can_be_edge (kind_of P m) h m ≡ false → CanBeEdge P h m → ⊥
can-no P h m = go (kind_of P m) refl
  where
    go : (kind : Kind) → kind_of P m ≡ kind → can_be_edge kind h m ≡ false → CanBeEdge P h m → ⊥
    go Mutex is e can = cc
    go Recursive is e can = ⊎_elim (λ t. can.again t.1 is) (λ t. let yes : not (nat_eq h m) ≡ true = ap not t.0 in absurd (let f = sym e ∙ yes in cc)) (eqb_tells h m)
    go kind is e can = let f = sym (ap is_any_mutex is) ∙ can.mutex in absurd (cc)

-- ---- points

pub edge-point : (P : Program) (p : Point) (m : ℕ) → IsInsideTake P p m → IsPoint P p
edge-point P p m t = (Calls (On t.call), t.is, subst (λ s. HasSide (Calls (On t.call)) s) (sym t.side) tt)

-- an alternative that fits says only of objects that they are held
claim-within : (claims : List Claim) (h count : ℕ) → get_or claims h NotHeld ≡ HeldTimes count → h < length claims
claim-within [] h count e = absurd (cc)
claim-within (c ∷ claims) zero count e = omega arith
claim-within (c ∷ claims) (suc h) count e = let rest = claim-within claims h count e in omega (arith, rest)

pub held-within : (P : Program) (notes : List Note) (p : Point) (h m : ℕ) → NotesFit P notes → IsEdge P notes p h m → h < length P.objects
held-within P notes p h m fit e =
    let at = (points_are_numbered P).at p (edge-point P p m e.inside) in
    let long : point_number P p < length notes = omega (arith, fit.0, slice_get_within (points_of P) (point_number P p) p at) in
    let note = fit.1 (point_number P p) [] long in
    let n = All-contains (λ n. AlternativeFits P n) (note_at P notes p) e.holds.alternative note.1 e.holds.among in
    let w = claim-within e.holds.alternative.claims h e.holds.count e.holds.holds in
    omega (arith, w, n.claims.0)

pub taken-within : (P : Program) (notes : List Note) (p : Point) (h m : ℕ) → IsFaultless P → IsEdge P notes p h m → m < length P.objects
taken-within P notes p h m free e =
    let there = (free.names.things p.actor.0 p.pc (Calls (On e.inside.call)) e.inside.is).1 in
    omega (arith, there, e.inside.takes.object)

-- ---- the first edge

-- no edge at the takes so far
abbrev pub NoEdgeAt : Program → List Note → ℕ → ℕ → List ℕ → ℕ → Type 0
NoEdgeAt P notes h m takes n = (k : ℕ) → k < n → (p : Point) → slice_get (points_of P) (get_or takes k 0) ≡ Some p → IsEdge P notes p h m → ⊥

pub no-edge-there : (P : Program) (notes : List Note) (h m : ℕ) (takes : List ℕ) → AreTakes P m takes → NoEdgeAt P notes h m takes (length takes) → (p : Point) → IsEdge P notes p h m → ⊥
no-edge-there P notes h m takes t none p e =
    let at = (points_are_numbered P).at p (edge-point P p m e.inside) in
    let c = t.all (point_number P p) (slice_get_within (points_of P) (point_number P p) p at) p at e.inside in
    none c.0 c.1 p (subst (λ k. slice_get (points_of P) k ≡ Some p) (sym (any takes c.0 c.1 ∙ c.2)) at) e
  where
    any : (xs : List ℕ) (k : ℕ) → k < length xs → get_or xs k 0 ≡ get_or xs k (point_number P p)
    any [] k l = absurd (omega arith)
    any (x ∷ xs) zero l = refl
    any (x ∷ xs) (suc k) l = any xs k (omega arith)

-- ---- all edges

has-kept : (edges : List Edge) (e : Edge) (h m : ℕ) → HasEdge edges h m → HasEdge (edges ++ e ∷ []) h m
has-kept edges e h m (f, among, ends) = (f, Contains-append_left edges (e ∷ []) f among, ends)

pub below-kept : (P : Program) (notes : List Note) (edges : List Edge) (e : Edge) (n : ℕ) → HasEdgesBelow P notes edges n → HasEdgesBelow P notes (edges ++ e ∷ []) n
below-kept P notes edges e n below = λ p h m l edge. has-kept edges e h m (below p h m l edge)

pub are-more : (P : Program) (notes : List Note) (edges : List Edge) (e : Edge) (h m : ℕ) → e.held.0 ≡ h → e.taken.0 ≡ m → IsEdge P notes e.point h m → h < length P.objects → m < length P.objects → AreEdges P notes edges → AreEdges P notes (edges ++ e ∷ [])
are-more P notes edges e h m held taken edge lh lm all =
    All-push (λ x. IsEdgeOf P notes x) edges e all (record {
      edge = subst (λ a. IsEdge P notes e.point a e.taken.0) (sym held) (subst (λ b. IsEdge P notes e.point h b) (sym taken) edge);
      held = omega (arith, held, lh);
      taken = omega (arith, taken, lm);
    })

pub from-more : (P : Program) (notes : List Note) (edges : List Edge) (e : Edge) (m n : ℕ) → e.held.0 ≡ n → e.taken.0 ≡ m → HasEdgesFrom P notes edges m n → HasEdgesFrom P notes (edges ++ e ∷ []) m (n + 1)
from-more P notes edges e m n held taken from = λ p h l edge.
    ⊎_elim
    (λ less. has-kept edges e h m (from p h less edge))
    (λ t. let same : n ≡ h = omega (arith, l, t) in (e, Contains-push edges e, (held ∙ same, taken)))
    (cases_lt h n)

pub from-other : (P : Program) (notes : List Note) (edges : List Edge) (m n : ℕ) → ((p : Point) → IsEdge P notes p n m → ⊥) → HasEdgesFrom P notes edges m n → HasEdgesFrom P notes edges m (n + 1)
from-other P notes edges m n none from = λ p h l edge.
    ⊎_elim
    (λ less. from p h less edge)
    (λ t. let same : h ≡ n = omega (arith, l, t) in absurd (none p (subst (λ a. IsEdge P notes p a m) same edge)))
    (cases_lt h n)

pub below-next : (P : Program) (notes : List Note) (edges : List Edge) (m n : ℕ) → NotesFit P notes → length P.objects ≤ n → HasEdgesBelow P notes edges m → HasEdgesFrom P notes edges m n → HasEdgesBelow P notes edges (m + 1)
below-next P notes edges m n fit le below from = λ p h k l edge.
    ⊎_elim
    (λ less. below p h k less edge)
    (λ t.
    let same : k ≡ m = omega (arith, l, t) in
    let here = subst (λ a. IsEdge P notes p h a) same edge in
    let w = held-within P notes p h m fit here in
    subst (λ a. HasEdge edges h a) (sym same) (from p h (omega (arith, w, le)) here))
    (cases_lt k m)

-- ---- what comes of the edges

-- an order of all edges, or a cycle of some of them, is one of the application
pub order-of-edges : (P : Program) (C : Certificate) (edges : List Edge) (order : Order) → IsFaultless P → AreEdges P C.notes edges → HasEdgesBelow P C.notes edges (length P.objects) → IsSettled edges order → IsOrderOf P C order
order-of-edges P C edges (Upwards mutexes) free all below up = λ p h m e.
    let there = below p h m (taken-within P C.notes p h m free e) e in
    let before = All-contains (λ e. ComesBefore mutexes.items e.held.0 e.taken.0) edges there.0 up.0 there.1 in
    subst (λ a. ComesBefore mutexes.items a m) there.2.0 (subst (λ b. ComesBefore mutexes.items there.0.held.0 b) there.2.1 before)
order-of-edges P C edges (Cycle cycle) free all below c = record {
  each = All-weaker (λ e. Contains edges e) (λ e. IsEdge P C.notes e.point e.held.0 e.taken.0) (λ e h. (All-contains (λ x. IsEdgeOf P C.notes x) edges e all h).edge) cycle.items c.each;
  closes = c.closes;
}

-- the same, by the certificate's notes and the edges as they are passed on
pub order-of-passed : (P : Program) (C passed : Certificate) (edges view : List Edge) (order : Order) → IsFaultless P → passed ≡ C → view ≡ edges → AreEdges P passed.notes edges → HasEdgesBelow P passed.notes edges (length P.objects) → IsSettled view order → IsOrderOf P C order
order-of-passed P C passed edges view order free is same all below settled =
    subst (λ D. IsOrderOf P D order) is (order-of-edges P passed edges order free all below (subst (λ v. IsSettled v order) same settled))

pub order-names : (P : Program) (notes : List Note) (edges view : List Edge) (order : Order) → view ≡ edges → AreEdges P notes edges → IsSettled view order → NamesThings P order
order-names P notes edges view (Upwards mutexes) same all up =
    let here = subst (λ v. AreEdges P notes v) (sym same) all in
    All-weaker (λ m. IsEnd view m.0) (λ m. m.0 < length P.objects) (λ m end.
    let e = All-contains (λ x. IsEdgeOf P notes x) view end.0 here end.1 in
    ⊎_elim (λ h. omega (arith, h, e.held)) (λ h. omega (arith, h, e.taken)) end.2) mutexes.items up.1
order-names P notes edges view (Cycle cycle) same all c =
    let here = subst (λ v. AreEdges P notes v) (sym same) all in
    All-weaker (λ e. Contains view e) (λ e. (e.held.0 < length P.objects) × (e.taken.0 < length P.objects) × IsPoint P e.point) (λ e h.
    let is = All-contains (λ x. IsEdgeOf P notes x) view e here h in
    (is.held, is.taken, edge-point P e.point e.taken.0 is.edge.inside)) cycle.items c.each
