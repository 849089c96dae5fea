-- No deadlock where each edge goes upwards. An actor of a cycle waits for a mutex, and the actor before it waits for one that it
-- holds. So an edge leads from each mutex of the cycle to the next one, and along the cycle the places of the mutexes rise for ever.
use Rattle.std.proofs.Common.{◌≡◌, ◌<◌, ◌≤◌, ◌+◌, ℕ, List, [], ◌∷◌, None, Some, refl, sym, ap, ◌∙◌, subst, arith}
use Rattle.std.specs.Prelude.{IsTrue, if◌then◌else◌}
use Rattle.std.proofs.lemmas.Bool.{eq-eqb}
use Rattle.fr_order.proofs.Terms.{ObjId, Point, Inside, Kind, Mutex, Recursive, Program, State, Content, Held, content_of, kind_of, CanHave, IsWellFormed, Claim, NotHeld, Alive, Gone, HeldTimes, Note}
use Rattle.fr_order.proofs.Terms.{Meets, Holds, claim_of, note_at, IsAt, is_any_mutex, place_in, ComesBefore, IsEdge}
use Rattle.fr_rules.specs.Step.{taken}
use Rattle.fr_waits.specs.declared.wait.Wait.{Wait}
use Rattle.fr_waits.specs.Waits.{WaitsFor, WaitInTurn, IsDeadlocked}

-- what is held is a mutex, and held at least once
held-mutex : (P : Program) (kind : Kind) (a count : ℕ) → CanHave P kind (Held a count) → (1 ≤ count) × IsTrue (is_any_mutex kind)
held-mutex P Mutex a count can = (omega (arith, can.1), refl)
held-mutex P Recursive a count can = (can.1, refl)
held-mutex P kind a count can = absurd can

-- a claim that is true of a mutex that the actor holds says so
claimed : (claim : Claim) (a count : ℕ) → 1 ≤ count → Meets a claim (Held a count) → (k : ℕ) × (claim ≡ HeldTimes k)
claimed NotHeld a count some m = let e = sym (ap (λ b. if b then count else 0) (eq-eqb a a refl)) ∙ m in absurd (omega (arith, e, some))
claimed Alive a count some m = let e = sym (ap (λ b. if b then count else 0) (eq-eqb a a refl)) ∙ m.1 in absurd (omega (arith, e, some))
claimed Gone a count some m = absurd (cc)
claimed (HeldTimes k) a count some m = (k, refl)

-- its holder can take a recursive mutex again
again-taken : (kind : Kind) (a count : ℕ) (content : Content) → kind ≡ Recursive → content ≡ Held a count → taken kind a content ≡ None → ⊥
again-taken kind a count content k c none =
    let there : taken Recursive a (Held a count) ≡ Some (Held a (count + 1)) = ap (λ b. if b then Some (Held a (count + 1)) else None) (eq-eqb a a refl) in
    let e : taken kind a content ≡ Some (Held a (count + 1)) = ap (λ x. taken x a content) k ∙ ap (λ x. taken Recursive a x) c ∙ there in
    cc

-- the actor holds this mutex
abbrev HeldBy : State → ℕ → ℕ → Type 0
HeldBy S a m = (count : ℕ) × (content_of S m ≡ Held a count)

module _ (P : Program) (notes : List Note) (mutexes : List ObjId) (up : (p : Point) (h m : ℕ) → IsEdge P notes p h m → ComesBefore mutexes h m) (S : State) (formed : IsWellFormed P S) (noted : (p : Point) → IsAt S p → Holds (note_at P notes p) p.actor.0 S) where
  -- an actor that waits for one mutex and holds another one is at an edge
  climbs : (a holder h m : ℕ) → WaitsFor P S a holder m → HeldBy S a h → place_in mutexes h < place_in mutexes m
  climbs a holder h m w held =
      let p : Point = record { actor = record { 0 = a }; pc = w.pc; side = Inside } in
      let note = noted p w.at in
      let mine = held-mutex P (kind_of P h) a held.0 (subst (λ x. CanHave P (kind_of P h) x) held.1 (formed.contents h)) in
      let says = claimed (claim_of note.0 h) a held.0 mine.0 (subst (λ x. Meets a (claim_of note.0 h) x) held.1 (note.2.objects h)) in
      let other = held-mutex P (kind_of P m) holder w.count (subst (λ x. CanHave P (kind_of P m) x) w.held (formed.contents m)) in
      (up p h m (record {
        inside = record { side = refl; call = w.call; is = w.is; takes = w.takes };
        mutex = other.1;
        holds = record { alternative = note.0; among = note.1; count = says.0; holds = says.1 };
        again = λ same kind. again-taken (kind_of P m) a held.0 (content_of S m) kind (ap (λ o. content_of S o) (sym same) ∙ held.1) w.refused;
      })).earlier

  -- the first one of a list of actors that wait in turn
  first : (v : Wait) (rest : List Wait) (to : ℕ) → WaitInTurn P S (v ∷ rest) to → (holder : ℕ) × WaitsFor P S v.actor.0 holder v.mutex.0
  first v [] to w = (to, w)
  first v (u ∷ rest) to w = (u.actor.0, w.0)

  -- the mutex that the last actor waits for, which comes no earlier than the first one's
  last : (w : Wait) (rest : List Wait) (to : ℕ) → WaitInTurn P S (w ∷ rest) to → (m : ℕ) × HeldBy S to m × (place_in mutexes w.mutex.0 ≤ place_in mutexes m)
  last w [] to wait = (w.mutex.0, (wait.count, wait.held), omega arith)
  last w (v ∷ rest) to wait =
      let next = first v rest to wait.1 in
      let up' = climbs v.actor.0 next.0 w.mutex.0 v.mutex.0 next.1 (wait.0.count, wait.0.held) in
      let l = last v rest to wait.1 in
      (l.0, l.1, omega (arith, up', l.2))

  pub no-deadlock : IsDeadlocked P S → ⊥
  no-deadlock ([], c) = c
  no-deadlock (w ∷ rest, c) =
      let l = last w rest w.actor.0 c in
      let f = first w rest w.actor.0 c in
      let up' = climbs w.actor.0 f.0 l.0 w.mutex.0 f.1 l.1 in
      omega (arith, up', l.2)
