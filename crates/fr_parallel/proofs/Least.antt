-- A pass with all numbers, in which all is right, has finished each, and the least of its tally is the least that isn't kept.
use Rattle.std.proofs.Common.{◌≡◌, ℕ, suc, ◌+◌, ◌*◌, ◌<◌, ◌≤◌, Bool, true, false, cond, eqb, List, [], ◌∷◌, length, refl, ◌∙◌, subst, arith}
use Rattle.std.specs.Prelude.{Option, Some, None}
use Rattle.std.proofs.lemmas.Bool.Decides.{nat_tests}
use mathlib.Core.Logic.{dite}
use native.Mathlib.Decide.{dec_lt}
use Rattle.fr_board.specs.declared.progress.Outcome.{Outcome}
use Rattle.fr_board.specs.declared.progress.Outcome.TheVariants.{Open, Marked, Passed, Failed, Skipped}
use Rattle.fr_board.specs.declared.progress.Drawn.{Drawn}
use Rattle.fr_board.specs.declared.progress.Progress.{Progress}
use Rattle.fr_board.specs.Drawn.{sum_of, finishes, failures, skips, finish, draw_of, failure_of, skip_of}
use Rattle.fr_board.specs.Tally.{IsTallyOf, DrewEach}
use Rattle.fr_board.proofs.Sums.{sum_of-le}
use Rattle.fr_board.proofs.Outcomes.{flag-one, failures-one}
use Rattle.fr_worker.specs.Worked.{IsRight, AreRight, IsLeast}

right-finishes : (keeps : Type 0) (o : Outcome) → IsRight keeps o → finishes o ≡ 1
right-finishes keeps Open r = absurd r
right-finishes keeps Marked r = absurd r
right-finishes keeps Passed r = refl
right-finishes keeps Failed r = refl
right-finishes keeps Skipped r = refl

right-fails : (keeps : Type 0) (o : Outcome) → IsRight keeps o → 0 < failures o → keeps → ⊥
right-fails keeps Open r p = absurd r
right-fails keeps Marked r p = absurd r
right-fails keeps Passed r p = absurd (omega arith)
right-fails keeps Failed r p = r
right-fails keeps Skipped r p = absurd (omega arith)

right-keeps : (keeps : Type 0) (o : Outcome) → IsRight keeps o → failures o ≡ 0 → skips o ≡ 0 → keeps
right-keeps keeps Open r p q = absurd r
right-keeps keeps Marked r p q = absurd r
right-keeps keeps Passed r p q = r
right-keeps keeps Failed r p q = absurd (omega arith)
right-keeps keeps Skipped r p q = absurd (omega arith)

failure-drawn : (x : ℕ) (ds : List Drawn) → sum_of (failure_of x) ds ≤ sum_of (draw_of x) ds
failure-drawn x ds =
    sum_of-le (failure_of x) (draw_of x) (λ d. flag-one (eqb d.number x) (failures d.outcome) (failures-one d.outcome)) ds

module _ (Keeps : ℕ → Type 0) where
  rest : (d : Drawn) (ds : List Drawn) → AreRight Keeps (d ∷ ds) → AreRight Keeps ds
  rest d ds r k e short = r (suc k) e (omega arith)

  pub all-finished : (ds : List Drawn) → AreRight Keeps ds → sum_of finish ds ≡ length ds
  all-finished [] r = refl
  all-finished (d ∷ ds) r =
      omega (arith, right-finishes (Keeps d.number) d.outcome (r 0 d (omega arith)), all-finished ds (rest d ds r))

  failed-fails : (x : ℕ) (ds : List Drawn) → AreRight Keeps ds → 0 < sum_of (failure_of x) ds → Keeps x → ⊥
  failed-fails x [] r p = absurd (omega arith)
  failed-fails x (d ∷ ds) r p = here (failed-fails x ds (rest d ds r)) (r 0 d (omega arith)) (eqb d.number x) refl p
    where
      here : (0 < sum_of (failure_of x) ds → Keeps x → ⊥) → IsRight (Keeps d.number) d.outcome → (b : Bool) → eqb d.number x ≡ b → 0 < cond b 1 0 * failures d.outcome + sum_of (failure_of x) ds → Keeps x → ⊥
      here more right true is p = let same : d.number ≡ x = grind (arith, nat_tests) in dite (dec_lt 0 (failures d.outcome))
          (λ some. subst (λ n. Keeps n → ⊥) same (right-fails (Keeps d.number) d.outcome right some))
          (λ none. more (omega arith))
      here more right false is p = more (omega arith)

  passed-keeps : (x : ℕ) (ds : List Drawn) → AreRight Keeps ds → 0 < sum_of (draw_of x) ds → sum_of (failure_of x) ds ≡ 0 → sum_of (skip_of x) ds ≡ 0 → Keeps x
  passed-keeps x [] r p f s = absurd (omega arith)
  passed-keeps x (d ∷ ds) r p f s = here (passed-keeps x ds (rest d ds r)) (r 0 d (omega arith)) (eqb d.number x) refl p f s
    where
      here : (0 < sum_of (draw_of x) ds → sum_of (failure_of x) ds ≡ 0 → sum_of (skip_of x) ds ≡ 0 → Keeps x) → IsRight (Keeps d.number) d.outcome → (b : Bool) → eqb d.number x ≡ b → 0 < cond b 1 0 + sum_of (draw_of x) ds → cond b 1 0 * failures d.outcome + sum_of (failure_of x) ds ≡ 0 → cond b 1 0 * skips d.outcome + sum_of (skip_of x) ds ≡ 0 → Keeps x
      here more right true is p f s =
          let same : d.number ≡ x = grind (arith, nat_tests) in
          subst Keeps same (right-keeps (Keeps d.number) d.outcome right (omega arith) (omega arith))
      here more right false is p f s = more (omega arith) (omega arith) (omega arith)

  pub tally-least : (jobs : ℕ) (least : Option ℕ) (p : Progress) → AreRight Keeps p.drawn → IsTallyOf jobs least p → IsLeast Keeps jobs least
  tally-least jobs None p r t =
      λ k lt. passed-keeps k p.drawn r (omega (arith, t.each_once k lt)) (t.least_is k) (t.skipped k)
  tally-least jobs (Some n) p r t =
      let inside : n < jobs = below (failure-drawn n p.drawn) (t.no_other n) t.least_is.0 in (
        inside,
        failed-fails n p.drawn r (omega (arith, t.least_is.0)),
        (λ k lt. passed-keeps k p.drawn r (omega (arith, t.each_once k (omega arith))) (t.least_is.1 k lt) (t.skipped k (omega arith))),
      )
    where
      below : sum_of (failure_of n) p.drawn ≤ sum_of (draw_of n) p.drawn → (jobs ≤ n → sum_of (draw_of n) p.drawn ≡ 0) → sum_of (failure_of n) p.drawn ≡ 1 → n < jobs
      below le other one = dite (dec_lt n jobs) (λ lt. lt) (λ ge. absurd (omega (arith, other (omega arith))))

  -- a pass with all numbers, in which all is right, has finished all jobs
  pub all-done : (jobs : ℕ) (p : Progress) → AreRight Keeps p.drawn → DrewEach jobs p → sum_of finish p.drawn ≡ jobs
  all-done jobs p r d = all-finished p.drawn r ∙ d.count
