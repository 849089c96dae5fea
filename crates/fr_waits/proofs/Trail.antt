-- The trail of a walk: waits of different actors, each for the next one. It is never longer than there are actors.
use Rattle.std.proofs.Common.{◌≡◌, ◌≢◌, ℕ, zero, suc, ◌<◌, ◌≤◌, ⊎_elim, List, [], ◌∷◌, ◌++◌, length, get_or, take, drop, true, eqb, sym, ap, ◌∙◌, subst, arith, length-drop, get_or-drop, drop-cons, map, add-zero}
use Rattle.std.specs.Prelude.{All, Contains}
use Rattle.std.specs.List.{IsDistinct, list_any}
use Rattle.std.proofs.lemmas.Bool.{eqb-true, ne_eqb}
use Rattle.std.proofs.lemmas.List.{get_or-map, length-map, take-append-drop}
use Rattle.std.proofs.lemmas.List.Elements.{All-push, Contains-append_cases, Contains-append_left, Contains-append_right, Contains-get_or}
use Rattle.std.proofs.lemmas.List.Folds.{Any-from_list_any}
use Rattle.std.proofs.lemmas.List.Quantifiers.{all_pairs_push}
use Rattle.std.proofs.lemmas.Map.Keys.{IsDistinct-from_apart}
use Rattle.std.proofs.lemmas.Map.Steps.{length-le_from_distinct_below}
use Rattle.fr_program.specs.Program.{Program}
use Rattle.fr_rules.specs.State.{State}
use Rattle.fr_waits.specs.declared.wait.Wait.{Wait}
use Rattle.fr_waits.specs.Waits.{HasEachOnce, WaitsFor, WaitInTurn, IsWay, LeadsTo, IsCycle, IsInCycle}
use Rattle.fr_waits.proofs.Cycles.{join, split, drop-in-turn, closed, turned, next-in-cycle}

abbrev number : Wait → ℕ
number w = w.actor.0

-- waits of different actors are at most as many as there are actors
pub few : (n : ℕ) (trail : List Wait) → HasEachOnce trail → All (λ w. w.actor.0 < n) trail → length trail ≤ n
few n trail once below =
    let numbers = map number trail in
    let d : Wait = record { actor = record { 0 = 0 }; mutex = record { 0 = 0 } } in
    let long : length numbers ≡ length trail = length-map trail number in
    let distinct : IsDistinct eqb numbers = IsDistinct-from_apart eqb numbers (λ i j e l h.
    let li : i < length trail = omega arith in
    let lj : j < length trail = omega arith in
    rw (get_or-map number trail i d e li, get_or-map number trail j d e lj)
    (ne_eqb _ _ (once i j d l lj))) in
    let within : (q : ℕ) → list_any (eqb q) numbers ≡ true → q < n = λ q t.
    let a = Any-from_list_any (eqb q) numbers t in
    let l : a.0 < length trail = omega (arith, a.2) in
    let here = below a.0 d l in
    let same : q ≡ a.1 = eqb-true q a.1 a.4 in
    let is : get_or numbers a.0 a.1 ≡ number (get_or trail a.0 d) = get_or-map number trail a.0 d a.1 l in
    omega (arith, here, same, is, a.3) in
    omega (arith, length-le_from_distinct_below numbers n distinct within)

-- the trail of a walk that began at the first actor and has come to the current one
pub record IsTrail (P : Program) (S : State) (first : ℕ) (trail : List Wait) (current : ℕ) : Type 0 where
  pub way : IsWay P S first trail current
  pub once : HasEachOnce trail
  pub below : All (λ w. w.actor.0 < length P.actors) trail
  pub here : current < length P.actors
  pub in_cycle : IsInCycle P S first → IsInCycle P S current

module _ (P : Program) (S : State) where
  in-turn : (first : ℕ) (xs : List Wait) (to : ℕ) → IsWay P S first xs to → WaitInTurn P S xs to
  in-turn first [] to h = tt
  in-turn first (x ∷ xs) to h = h.1

  way-on : (first h : ℕ) (trail : List Wait) (w : Wait) → IsWay P S first trail w.actor.0 → WaitsFor P S w.actor.0 h w.mutex.0 → IsWay P S first (trail ++ w ∷ []) h
  way-on first h [] w way waits = (sym way, waits)
  way-on first h (x ∷ xs) w way waits = (way.0, join P S (x ∷ xs) w [] h way.1 waits)

  way-up-to : (first to n : ℕ) (xs : List Wait) (d : Wait) → n < length xs → IsWay P S first xs to → IsWay P S first (take n xs) (get_or xs n d).actor.0
  way-up-to first to n [] d l way = absurd (omega arith)
  way-up-to first to zero (x ∷ xs) d l way = sym way.0
  way-up-to first to (suc n) (x ∷ xs) d l way =
      let whole : x ∷ xs ≡ take (suc n) (x ∷ xs) ++ get_or (x ∷ xs) (suc n) d ∷ drop (suc (suc n)) (x ∷ xs) =
      sym (take-append-drop (suc n) (x ∷ xs)) ∙ ap (λ ys. take (suc n) (x ∷ xs) ++ ys) (drop-cons (x ∷ xs) (suc n) d l) in
      (way.0, (split P S (take (suc n) (x ∷ xs)) (get_or (x ∷ xs) (suc n) d) (drop (suc (suc n)) (x ∷ xs)) to (subst (λ ys. WaitInTurn P S ys to) whole way.1)).0)

  -- one wait more, of an actor that isn't in the trail yet
  pub longer : (first h : ℕ) (trail : List Wait) (w : Wait) → IsTrail P S first trail w.actor.0 → All (λ v. v.actor.0 ≢ w.actor.0) trail → WaitsFor P S w.actor.0 h w.mutex.0 → h < length P.actors → IsTrail P S first (trail ++ w ∷ []) h
  longer first h trail w t fresh waits l =
      record {
        way = way-on first h trail w t.way waits;
        once = all_pairs_push (λ u v. u.actor.0 ≢ v.actor.0) trail w t.once (λ k d b. fresh k d b);
        below = All-push (λ v. v.actor.0 < length P.actors) trail w t.below t.here;
        here = l;
        in_cycle = λ c. next-in-cycle P S w.actor.0 h w.mutex.0 waits (t.in_cycle c);
      }

  -- where the current actor is in the trail, a cycle begins, and it is one from wherever one begins it
  pub comes-back : (first current start k : ℕ) (trail : List Wait) → IsTrail P S first trail current → start < length trail → ((d : Wait) → (get_or trail start d).actor.0 ≡ current) → IsCycle P S (drop k (drop start trail) ++ take k (drop start trail))
  comes-back first current start k trail t l e =
      turned P S k (drop start trail)
      (closed P S (drop start trail) current (drop-in-turn P S start trail current (in-turn first trail current t.way)) (omega (arith, length-drop start trail))
      (λ d. ap number (get_or-drop start trail 0 d) ∙ subst (λ n. (get_or trail n d).actor.0 ≡ current) (omega arith) (e d)))

  -- and one comes to it from the first actor
  pub leads-to : (first current start k : ℕ) (trail : List Wait) → IsTrail P S first trail current → start < length trail → LeadsTo P S first (drop k (drop start trail) ++ take k (drop start trail))
  leads-to first current start k trail t l =
      let d : Wait = record { actor = record { 0 = 0 }; mutex = record { 0 = 0 } } in
      let cycle = drop start trail in
      let w = get_or trail start d in
      let some : 0 < length cycle = omega (arith, length-drop start trail) in
      let first-of : get_or cycle 0 d ≡ w = get_or-drop start trail 0 d ∙ ap (λ n. get_or trail n d) (add-zero start) in
      let there : Contains cycle w = subst (λ v. Contains cycle v) first-of (Contains-get_or cycle 0 d some) in
      let parts : Contains (take k cycle ++ drop k cycle) w = subst (λ xs. Contains xs w) (sym (take-append-drop k cycle)) there in
      let turned-there : Contains (drop k cycle ++ take k cycle) w =
      ⊎_elim (λ h. Contains-append_right (drop k cycle) (take k cycle) w h) (λ h. Contains-append_left (drop k cycle) (take k cycle) w h) (Contains-append_cases (take k cycle) (drop k cycle) w parts) in
      (take start trail, w, turned-there, way-up-to first current start trail d l t.way)
