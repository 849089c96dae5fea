-- Lists in which each actor waits for the next one: parts of them, longer ones, and cycles begun elsewhere. Who is in a
-- cycle waits, for one of the cycle.
use Rattle.std.proofs.Common.{◌≡◌, ℕ, zero, suc, ◌<◌, List, [], ◌∷◌, ◌++◌, length, get_or, take, drop, Some, refl, sym, ap, ◌∙◌, subst, ◌⊎◌, inl, inr, ⊎_elim, arith, append-nil}
use Rattle.std.specs.Prelude.{Contains}
use Rattle.std.proofs.lemmas.List.{take-append-drop}
use Rattle.std.proofs.lemmas.Option.{same_Some}
use Rattle.fr_program.specs.declared.instr.Instr.TheVariants.{Call as Calls}
use Rattle.fr_program.specs.declared.instr.Call.TheVariants.{On}
use Rattle.fr_program.specs.declared.ids.Side.TheVariants.{Inside}
use Rattle.fr_program.specs.Program.{Program}
use Rattle.fr_program.specs.Lookup.{instr_at}
use Rattle.fr_rules.specs.State.{State, At, Held, content_of}
use Rattle.fr_waits.specs.declared.wait.Wait.{Wait}
use Rattle.fr_waits.specs.Waits.{WaitsFor, WaitInTurn, IsCycle, IsInCycle, IsDeadlocked}

-- what is in a list is its first element, or in the rest
pub contains_cases : {X : Type 0} (x : X) (xs : List X) (w : X) → Contains (x ∷ xs) w → (x ≡ w) ⊎ Contains xs w
contains_cases x xs w (zero, l, e) = inl e
contains_cases x xs w (suc k, l, e) = inr (k, omega arith, e)

pub contains_first : {X : Type 0} (x : X) (xs : List X) → Contains (x ∷ xs) x
contains_first x xs = (0, omega arith, refl)

pub contains_rest : {X : Type 0} (x : X) (xs : List X) (w : X) → Contains xs w → Contains (x ∷ xs) w
contains_rest x xs w (k, l, e) = (suc k, omega arith, e)

module _ (P : Program) (S : State) where
  -- an actor waits for at most one holder, over one mutex
  pub same_wait : (a h m h' m' : ℕ) → WaitsFor P S a h m → WaitsFor P S a h' m' → (h ≡ h') × (m ≡ m')
  same_wait a h m h' m' w v =
      let places : At w.pc Inside ≡ At v.pc Inside = sym w.at ∙ v.at in
      let pc : w.pc ≡ v.pc = cc in
      let is : instr_at P a v.pc ≡ Some (Calls (On w.call)) = subst (λ n. instr_at P a n ≡ Some (Calls (On w.call))) pc w.is in
      let instrs : Calls (On w.call) ≡ Calls (On v.call) = same_Some _ _ (sym is ∙ v.is) in
      let call : w.call ≡ v.call = cc in
      let m-same : m ≡ m' = sym w.takes.object ∙ ap (λ c. c.object.0) call ∙ v.takes.object in
      let contents : Held h w.count ≡ Held h' v.count = sym w.held ∙ ap (content_of S) m-same ∙ v.held in
      (cc, m-same)

  -- two lists, the first of which ends at the second one's first actor
  pub join : (xs : List Wait) (y : Wait) (ys : List Wait) (to : ℕ) → WaitInTurn P S xs y.actor.0 → WaitInTurn P S (y ∷ ys) to → WaitInTurn P S (xs ++ y ∷ ys) to
  join [] y ys to h k = k
  join (x ∷ []) y ys to h k = (h, k)
  join (x ∷ v ∷ rest) y ys to h k = (h.0, join (v ∷ rest) y ys to h.1 k)

  pub split : (xs : List Wait) (y : Wait) (ys : List Wait) (to : ℕ) → WaitInTurn P S (xs ++ y ∷ ys) to → WaitInTurn P S xs y.actor.0 × WaitInTurn P S (y ∷ ys) to
  split [] y ys to h = (tt, h)
  split (x ∷ []) y ys to h = (h.0, h.1)
  split (x ∷ v ∷ rest) y ys to h = let r = split (v ∷ rest) y ys to h.1 in ((h.0, r.0), r.1)

  rest-in-turn : (x : Wait) (xs : List Wait) (to : ℕ) → WaitInTurn P S (x ∷ xs) to → WaitInTurn P S xs to
  rest-in-turn x [] to h = tt
  rest-in-turn x (v ∷ rest) to h = h.1

  pub drop-in-turn : (n : ℕ) (xs : List Wait) (to : ℕ) → WaitInTurn P S xs to → WaitInTurn P S (drop n xs) to
  drop-in-turn zero xs to h = h
  drop-in-turn (suc n) [] to h = tt
  drop-in-turn (suc n) (x ∷ xs) to h = drop-in-turn n xs to (rest-in-turn x xs to h)

  -- a list whose last actor waits for its first one
  pub closed : (xs : List Wait) (to : ℕ) → WaitInTurn P S xs to → 0 < length xs → ((d : Wait) → (get_or xs 0 d).actor.0 ≡ to) → IsCycle P S xs
  closed [] to h l e = omega (arith, l)
  closed (x ∷ xs) to h l e = subst (λ n. WaitInTurn P S (x ∷ xs) n) (sym (e x)) h

  -- a cycle in two parts, with the second part first
  pub swapped : (xs ys : List Wait) → IsCycle P S (xs ++ ys) → IsCycle P S (ys ++ xs)
  swapped [] ys h = subst (λ l. IsCycle P S l) (sym (append-nil ys)) h
  swapped (x ∷ xs) [] h = subst (λ l. IsCycle P S l) (append-nil (x ∷ xs)) h
  swapped (x ∷ xs) (y ∷ ys) h = let s = split (x ∷ xs) y ys x.actor.0 h in join (y ∷ ys) x xs y.actor.0 s.1 s.0

  pub turned : (k : ℕ) (xs : List Wait) → IsCycle P S xs → IsCycle P S (drop k xs ++ take k xs)
  turned k xs h = swapped (take k xs) (drop k xs) (subst (λ l. IsCycle P S l) (sym (take-append-drop k xs)) h)

  -- one of a list waits, for another one of it or for the one given
  abbrev Awaits : List Wait → ℕ → Wait → Type 0
  Awaits xs to w = (h : ℕ) × WaitsFor P S w.actor.0 h w.mutex.0 × ((h ≡ to) ⊎ ((v : Wait) × Contains xs v × (v.actor.0 ≡ h)))

  later : (x : Wait) (xs : List Wait) (to : ℕ) (w : Wait) → Awaits xs to w → Awaits (x ∷ xs) to w
  later x xs to w (h, waits, inl e) = (h, waits, inl e)
  later x xs to w (h, waits, inr (v, in', e)) = (h, waits, inr (v, contains_rest x xs v in', e))

  awaits : (xs : List Wait) (to : ℕ) → WaitInTurn P S xs to → (w : Wait) → Contains xs w → Awaits xs to w
  awaits [] to h w (k, l, e) = absurd (omega arith)
  awaits (x ∷ []) to h w in' =
      ⊎_elim
      (λ e. subst (λ v. Awaits (x ∷ []) to v) e (to, h, inl refl))
      (λ r. absurd (omega (arith, r.1)))
      (contains_cases x [] w in')
  awaits (x ∷ v ∷ rest) to h w in' =
      ⊎_elim
      (λ e. subst (λ u. Awaits (x ∷ v ∷ rest) to u) e (v.actor.0, h.0, inr (v, contains_rest x (v ∷ rest) v (contains_first v rest), refl)))
      (λ r. later x (v ∷ rest) to w (awaits (v ∷ rest) to h.1 w r))
      (contains_cases x (v ∷ rest) w in')

  -- one of a cycle waits for one of it
  pub awaits-one : (cycle : List Wait) → IsCycle P S cycle → (w : Wait) → Contains cycle w → (v : Wait) × Contains cycle v × WaitsFor P S w.actor.0 v.actor.0 w.mutex.0
  awaits-one [] c w in' = elim c [ ]
  awaits-one (x ∷ rest) c w in' =
      let r = awaits (x ∷ rest) x.actor.0 c w in' in
      ⊎_elim
      (λ e. (x, contains_first x rest, subst (λ n. WaitsFor P S w.actor.0 n w.mutex.0) e r.1))
      (λ q. (q.0, q.1, subst (λ n. WaitsFor P S w.actor.0 n w.mutex.0) (sym q.2) r.1))
      r.2

  -- whom an actor of a cycle waits for is of a cycle
  pub next-in-cycle : (a h m : ℕ) → WaitsFor P S a h m → IsInCycle P S a → IsInCycle P S h
  next-in-cycle a h m waits (cycle, is, w, in', e) =
      let r = awaits-one cycle is w in' in
      let mine : WaitsFor P S a r.0.actor.0 w.mutex.0 = subst (λ n. WaitsFor P S n r.0.actor.0 w.mutex.0) e r.2 in
      let same = same_wait a h m r.0.actor.0 w.mutex.0 waits mine in
      (cycle, is, r.0, r.1, sym same.0)

  -- an actor of a cycle waits
  pub waits-in-cycle : (a : ℕ) → IsInCycle P S a → (h m : ℕ) × WaitsFor P S a h m
  waits-in-cycle a (cycle, is, w, in', e) =
      let r = awaits-one cycle is w in' in
      (r.0.actor.0, w.mutex.0, subst (λ n. WaitsFor P S n r.0.actor.0 w.mutex.0) e r.2)

  -- the first actor of a deadlock is of a cycle
  pub first-in-cycle : IsDeadlocked P S → (a : ℕ) × IsInCycle P S a
  first-in-cycle ([], c) = elim c [ ]
  first-in-cycle (x ∷ rest, c) = (x.actor.0, (x ∷ rest, c, x, contains_first x rest, refl))
