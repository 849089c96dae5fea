-- Each step keeps the rule.
-- A step changes one pass, so each total of the rule changes by what that pass has more or less, and each part of the rule is an
-- equation or an order of such totals. First each step on plain data, then in the form that a step on the table asks for.
use Rattle.std.proofs.Common.{◌≡◌, ◌≢◌, ℕ, ◌+◌, ◌-◌, ◌%◌, ◌*◌, ◌^◌, ◌<◌, ◌≤◌, Bool, true, false, List, [], ◌∷◌, ◌++◌, length, get_or, set, min, cond, eqb, refl, sym, ap, ◌∙◌, subst, ⊎_elim, arith}
use mathlib.Core.Option.{Option, none, some}
use mathlib.Core.Logic.{dite}
use Rattle.std.specs.Prelude.{Some}
use Rattle.std.proofs.lemmas.Bool.Decides.{nat_tests}
use Rattle.atomic_table.proofs.Lists.{at_set}
use native.Mathlib.Decide.{dec_lt}
use lib.ListN.{get_elem?}
use Rattle.atomic_table.specs.Table.{Me, step, keeps, stepped, Allows, Splits, Joins}
use Rattle.fr_board.specs.declared.progress.Drawn.{Drawn}
use Rattle.fr_board.specs.declared.progress.Outcome.{Outcome}
use Rattle.fr_board.specs.declared.progress.Outcome.TheVariants.{Open, Marked, Passed, Failed, Skipped}
use Rattle.fr_board.specs.declared.progress.Progress.{Progress}
use Rattle.fr_board.specs.Drawn.{sum_of, draw, draw_of, finishes, marks, skips, finish, mark_of, skip_of, IsAbove, entry, outcome_of}
use Rattle.fr_board.specs.Progress.{total, in_pass, dry_marks_of, weight_of, after_draw, after_dry_draw, after_outcome, after_look, joined, spent_progress, new_progress}
use Rattle.fr_board.specs.Rule.{once_below, PassRule, BoardRule, KeepsRule}
use Rattle.fr_board.specs.Tells.{CountTells, DrawTells, LeastTells, LookTells}
use Rattle.fr_board.specs.Values.{MayBecome}
use Rattle.fr_board.proofs.Outcomes.{finishes-one}
use Rattle.fr_board.proofs.Sums.{sum_of-push, sum_of-append, sum_of-with_outcome, sum_of-le, total-push, every-push, total-set, total-at, total-le, every-set, once_below-more, once_below-not, IsAbove-none}

-- a new first word
keeps_next : (jobs seats : ℕ) (ws : List ℕ) (homes : List (Option (Unit {0}))) (vs : List Progress) (n : ℕ) → length ws ≡ 3 → BoardRule jobs seats n (get_or ws 1 0) (get_or ws 2 0) vs
    → KeepsRule jobs seats (record { words = set ws 0 n; homes = homes; views = vs })
keeps_next jobs seats [] homes vs n e r = absurd (omega arith)
keeps_next jobs seats (a ∷ []) homes vs n e r = absurd (omega arith)
keeps_next jobs seats (a ∷ b ∷ []) homes vs n e r = absurd (omega arith)
keeps_next jobs seats (a ∷ b ∷ c ∷ []) homes vs n e r = (refl, r)
keeps_next jobs seats (a ∷ b ∷ c ∷ d ∷ ws) homes vs n e r = absurd (omega arith)

-- a new second word, and a new third one
keeps_done : (jobs seats : ℕ) (ws : List ℕ) (homes : List (Option (Unit {0}))) (vs : List Progress) (n : ℕ) → length ws ≡ 3 → BoardRule jobs seats (get_or ws 0 0) n (get_or ws 2 0) vs
    → KeepsRule jobs seats (record { words = set ws 1 n; homes = homes; views = vs })
keeps_done jobs seats [] homes vs n e r = absurd (omega arith)
keeps_done jobs seats (a ∷ []) homes vs n e r = absurd (omega arith)
keeps_done jobs seats (a ∷ b ∷ []) homes vs n e r = absurd (omega arith)
keeps_done jobs seats (a ∷ b ∷ c ∷ []) homes vs n e r = (refl, r)
keeps_done jobs seats (a ∷ b ∷ c ∷ d ∷ ws) homes vs n e r = absurd (omega arith)

keeps_least : (jobs seats : ℕ) (ws : List ℕ) (homes : List (Option (Unit {0}))) (vs : List Progress) (n : ℕ) → length ws ≡ 3 → BoardRule jobs seats (get_or ws 0 0) (get_or ws 1 0) n vs
    → KeepsRule jobs seats (record { words = set ws 2 n; homes = homes; views = vs })
keeps_least jobs seats [] homes vs n e r = absurd (omega arith)
keeps_least jobs seats (a ∷ []) homes vs n e r = absurd (omega arith)
keeps_least jobs seats (a ∷ b ∷ []) homes vs n e r = absurd (omega arith)
keeps_least jobs seats (a ∷ b ∷ c ∷ []) homes vs n e r = (refl, r)
keeps_least jobs seats (a ∷ b ∷ c ∷ d ∷ ws) homes vs n e r = absurd (omega arith)

-- a pass that is not spent
pass_rule : (jobs least : ℕ) (p : Progress) → 0 < p.weight → p.jobs ≡ jobs → p.dry_marks ≤ p.weight → least ≤ p.look → PassRule jobs least p
pass_rule jobs least p heavy same dry look = record { jobs_are = λ h. same; dry_marks_within = dry; look_from = λ h. look; nothing_left = λ z. absurd (omega arith) }

-- a change of passes that leaves each total keeps the rule, where it keeps that of each pass
rule-same_totals : (jobs seats next done least : ℕ) (vs ws : List Progress) → BoardRule jobs seats next done least vs
    → ((f : Drawn → ℕ) → total (in_pass f) ws ≡ total (in_pass f) vs) → total dry_marks_of ws ≡ total dry_marks_of vs → total weight_of ws ≡ total weight_of vs
    → ((id : ℕ) (p : Progress) → get_elem? ws id ≡ some p → PassRule jobs least p) → BoardRule jobs seats next done least ws
rule-same_totals jobs seats next done least vs ws r sum dries weights each = record {
  small = r.small;
  each_once = λ x. sum (draw_of x) ∙ r.each_once x;
  count = sum draw ∙ r.count;
  next_is = omega (arith, r.next_is, sum draw);
  weights = weights ∙ r.weights;
  done_is = r.done_is ∙ sym (sum finish);
  least_under = λ x p. r.least_under x (omega (arith, sum (mark_of x)));
  least_marked = λ p. omega (arith, r.least_marked p, sum (mark_of least));
  least_within = r.least_within;
  skipped_above = λ x p. r.skipped_above x (omega (arith, sum (skip_of x)));
  each_pass = each;
}

-- no more dry marks than passes
dry_marks_within : (jobs seats next done least : ℕ) (vs : List Progress) → BoardRule jobs seats next done least vs → total dry_marks_of vs ≤ seats
dry_marks_within jobs seats next done least vs r = let le = total-le dry_marks_of weight_of vs (λ id v e. (r.each_pass id v e).dry_marks_within) in let w = r.weights in omega arith

-- the count of x, after a draw of the number n
once_below-draw : (x n jobs T T' a b : ℕ) → n < jobs → T ≡ once_below x (min n jobs) → T' + a ≡ T + b → b ≡ a + cond (eqb n x) 1 0 → T' ≡ once_below x (min (n + 1) jobs)
once_below-draw x n jobs T T' a b lt t e m =
    let e1 : min n jobs ≡ n = omega arith in
    let e2 : min (n + 1) jobs ≡ n + 1 = omega arith in
    let t1 : T ≡ once_below x n = t ∙ ap (once_below x) e1 in
    let t2 : T' ≡ once_below x (n + 1) = omega (arith, once_below-more x n) in
    t2 ∙ ap (once_below x) (sym e2)

-- a draw of a number
draw_some_keeps : (jobs seats next done least id : ℕ) (vs : List Progress) (v : Progress) → BoardRule jobs seats next done least vs → get_elem? vs id ≡ some v → 0 < v.weight → next < jobs → BoardRule jobs seats (next + 1) done least (set vs id (after_draw v next))
draw_some_keeps jobs seats next done least id vs v r here heavy lt =
    let w = after_draw v next in
    let sum : (f : Drawn → ℕ) → total (in_pass f) (set vs id w) ≡ total (in_pass f) vs + f (entry next Open) = λ f. omega (arith, total-set (in_pass f) vs id v w here, sum_of-push f v.drawn (entry next Open)) in
    let ones = sum draw in
    let dries = total-set dry_marks_of vs id v w here in
    let weights = total-set weight_of vs id v w here in
    let c = r.count in
    let n = r.next_is in
    let old = r.each_pass id v here in
    record {
      small = r.small;
      each_once = λ x. once_below-draw x next jobs (total (in_pass (draw_of x)) vs) (total (in_pass (draw_of x)) (set vs id w)) 0 (draw_of x (entry next Open)) lt (r.each_once x) (omega (arith, sum (draw_of x))) (omega arith);
      count = omega arith;
      next_is = omega arith;
      weights = omega (arith, r.weights);
      done_is = omega (arith, r.done_is, sum finish);
      least_under = λ x p. r.least_under x (omega (arith, sum (mark_of x)));
      least_marked = λ p. omega (arith, r.least_marked p, sum (mark_of least));
      least_within = r.least_within;
      skipped_above = λ x p. r.skipped_above x (omega (arith, sum (skip_of x)));
      each_pass = every-set (PassRule jobs least) vs id w r.each_pass (pass_rule jobs least w heavy (old.jobs_are heavy) old.dry_marks_within (old.look_from heavy));
    }

-- a draw that finds none
draw_none_keeps : (jobs seats next done least id : ℕ) (vs : List Progress) (v : Progress) → BoardRule jobs seats next done least vs → get_elem? vs id ≡ some v → 0 < v.weight → v.dry_marks ≡ 0 → jobs ≤ next → BoardRule jobs seats (next + 1) done least (set vs id (after_dry_draw v))
draw_none_keeps jobs seats next done least id vs v r here heavy wet le =
    let w = after_dry_draw v in
    let sum : (f : Drawn → ℕ) → total (in_pass f) (set vs id w) ≡ total (in_pass f) vs = λ f. omega (arith, total-set (in_pass f) vs id v w here) in
    let ones = sum draw in
    let dries = total-set dry_marks_of vs id v w here in
    let weights = total-set weight_of vs id v w here in
    let c = r.count in
    let n = r.next_is in
    let old = r.each_pass id v here in
    let same : min next jobs ≡ min (next + 1) jobs = omega arith in
    record {
      small = r.small;
      each_once = λ x. sum (draw_of x) ∙ r.each_once x ∙ ap (once_below x) same;
      count = omega arith;
      next_is = omega arith;
      weights = omega (arith, r.weights);
      done_is = omega (arith, r.done_is, sum finish);
      least_under = λ x p. r.least_under x (omega (arith, sum (mark_of x)));
      least_marked = λ p. omega (arith, r.least_marked p, sum (mark_of least));
      least_within = r.least_within;
      skipped_above = λ x p. r.skipped_above x (omega (arith, sum (skip_of x)));
      each_pass = every-set (PassRule jobs least) vs id w r.each_pass (pass_rule jobs least w heavy (old.jobs_are heavy) (omega arith) (old.look_from heavy));
    }

-- what was drawn so far is below next
next_is_above : (jobs seats next done least id : ℕ) (vs : List Progress) (v : Progress) → BoardRule jobs seats next done least vs → get_elem? vs id ≡ some v → IsAbove next v.drawn
next_is_above jobs seats next done least id vs v r here = IsAbove-none next v.drawn (λ x le. none x le)
  where
    none : (x : ℕ) → next ≤ x → sum_of (draw_of x) v.drawn ≡ 0
    none x le = let t = total-at (in_pass (draw_of x)) vs id v here in let e = r.each_once x in let z : once_below x (min next jobs) ≡ 0 = once_below-not x (min next jobs) (omega arith) in omega arith

-- the same, as the step on the table asks for it; next never wraps
pub draw_allowed : (jobs seats slots id : ℕ) (me : Me (Unit {0}) Progress) → me.0.jobs ≡ jobs → me.0.dry_marks ≡ 0 → 0 < me.0.weight
    → Allows (KeepsRule jobs seats) slots id me 0 (λ n. (n + 1) % 2 ^ 64) (DrawTells (step slots 0 1 0 none) me)
draw_allowed jobs seats slots id me same wet heavy s held _ here fits =
    let n : ℕ = get_or s.words 0 0 in
    let r = held.1 in
    let bound : n + 1 < 18446744073709551616 = omega (arith, r.small, r.count, r.next_is, dry_marks_within jobs seats n _ _ s.views r) in
    let wraps : (n + 1) % 18446744073709551616 ≡ n + 1 = omega arith in
    let then : (w : Progress) → BoardRule jobs seats (n + 1) (get_or s.words 1 0) (get_or s.words 2 0) (set s.views id w) → KeepsRule jobs seats (stepped s 0 ((n + 1) % 18446744073709551616) id me.1 w keeps) =
    λ w k. subst (λ (z : ℕ). KeepsRule jobs seats (stepped s 0 z id me.1 w keeps)) (sym wraps) (keeps_next jobs seats s.words s.homes (set s.views id w) (n + 1) held.0 k) in
    dite (dec_lt n jobs)
    (λ lt. (after_draw me.0 n, keeps, tt, then _ (draw_some_keeps jobs seats n _ _ id s.views me.0 r here heavy lt), (refl, (λ _. (refl, next_is_above jobs seats n _ _ id s.views me.0 r here)), (λ le. absurd (omega arith)))))
    (λ ge. (after_dry_draw me.0, keeps, tt, then _ (draw_none_keeps jobs seats n _ _ id s.views me.0 r here heavy wet (omega arith)), (refl, (λ lt. absurd (ge (omega arith))), (λ _. refl))))

-- the totals after a number has become o
total-after_outcome : (vs : List Progress) (id : ℕ) (v : Progress) (n : ℕ) (was o : Outcome) → get_elem? vs id ≡ some v → outcome_of n v.drawn ≡ Some was → (f : Drawn → ℕ)
    → total (in_pass f) (set vs id (after_outcome v n o)) + f (entry n was) ≡ total (in_pass f) vs + f (entry n o)
total-after_outcome vs id v n was o here is f = omega (arith, total-set (in_pass f) vs id v (after_outcome v n o) here, sum_of-with_outcome f n o was v.drawn is)

-- least is under each marked number, after the number n was marked
marked_under : (x n least T T' : ℕ) → T' ≡ T + cond (eqb n x) 1 0 → (0 < T → least ≤ x) → 0 < T' → min least n ≤ x
marked_under x n least T T' e h p = grind (arith, nat_tests)

-- a number is itself
draw_of-same : (n : ℕ) → draw_of n (entry n Open) ≡ 1
draw_of-same n = grind (arith, nat_tests)

-- a step on least
least_keeps : (jobs seats next done least id : ℕ) (vs : List Progress) (v : Progress) (n : ℕ) → BoardRule jobs seats next done least vs → get_elem? vs id ≡ some v → 0 < v.weight → outcome_of n v.drawn ≡ Some Open → BoardRule jobs seats next done (min least n) (set vs id (after_outcome v n Marked))
least_keeps jobs seats next done least id vs v n r here heavy is =
    let w = after_outcome v n Marked in
    let sum : (f : Drawn → ℕ) → total (in_pass f) (set vs id w) + f (entry n Open) ≡ total (in_pass f) vs + f (entry n Marked) = total-after_outcome vs id v n Open Marked here is in
    let ones : total (in_pass draw) (set vs id w) ≡ total (in_pass draw) vs = omega (arith, sum draw) in
    let dries : total dry_marks_of (set vs id w) ≡ total dry_marks_of vs = omega (arith, total-set dry_marks_of vs id v w here) in
    let weights : total weight_of (set vs id w) ≡ total weight_of vs = omega (arith, total-set weight_of vs id v w here) in
    let old = r.each_pass id v here in
    record {
      small = r.small;
      each_once = λ x. let e : total (in_pass (draw_of x)) (set vs id w) ≡ total (in_pass (draw_of x)) vs = omega (arith, sum (draw_of x)) in e ∙ r.each_once x;
      count = ones ∙ r.count;
      next_is = omega (arith, r.next_is);
      weights = weights ∙ r.weights;
      done_is = omega (arith, r.done_is, sum finish);
      least_under = λ x p. marked_under x n least (total (in_pass (mark_of x)) vs) (total (in_pass (mark_of x)) (set vs id w)) (omega (arith, sum (mark_of x))) (r.least_under x) p;
      least_marked = λ p. dite (dec_lt n least)
          (λ lt. let e : min least n ≡ n = omega arith in let s : 0 < total (in_pass (mark_of n)) (set vs id w) = omega (arith, sum (mark_of n), draw_of-same n) in subst (λ k. 0 < total (in_pass (mark_of k)) (set vs id w)) (sym e) s)
          (λ ge. let e : min least n ≡ least = omega arith in let s : 0 < total (in_pass (mark_of least)) (set vs id w) = omega (arith, sum (mark_of least), r.least_marked (omega arith)) in subst (λ k. 0 < total (in_pass (mark_of k)) (set vs id w)) (sym e) s);
      least_within = omega (arith, r.least_within);
      skipped_above = λ x p. omega (arith, r.skipped_above x (omega (arith, sum (skip_of x))));
      each_pass = every-set (PassRule jobs (min least n)) vs id w (λ j u e. let f = r.each_pass j u e in record { jobs_are = f.jobs_are; dry_marks_within = f.dry_marks_within; look_from = λ h. omega (arith, f.look_from h); nothing_left = f.nothing_left })
          (pass_rule jobs (min least n) w heavy (old.jobs_are heavy) old.dry_marks_within (omega (arith, old.look_from heavy)));
    }

-- the same, as the step on the table asks for it
pub least_allowed : (jobs seats slots id : ℕ) (me : Me (Unit {0}) Progress) (n : ℕ) → 0 < me.0.weight → outcome_of n me.0.drawn ≡ Some Open
    → Allows (KeepsRule jobs seats) slots id me 2 (λ l. min l n) (LeastTells (step slots 2 n 0 none) me)
least_allowed jobs seats slots id me n heavy is s held _ here fits =
    (after_outcome me.0 n Marked, keeps, tt, keeps_least jobs seats s.words s.homes _ _ held.0 (least_keeps jobs seats _ _ (get_or s.words 2 0) id s.views me.0 n held.1 here heavy is), (refl, refl))

-- how a number may be finished
pub record EndsAs (was o : Outcome) (look n : ℕ) : Type 0 where
  pub was_pending : finishes was ≡ 0
  pub is_finished : finishes o ≡ 1
  pub same_marks : marks was ≡ marks o
  pub was_no_skip : skips was ≡ 0
  pub look_below : 0 < skips o → look < n

-- a skipped number is above least, after the number n was finished with a look below it
skipped_above_look : (x n least look a T T' : ℕ) → T' ≡ T + cond (eqb n x) 1 0 * a → (0 < T → least < x) → least ≤ look → (0 < a → look < n) → 0 < T' → least < x
skipped_above_look x n least look a T T' e h l k p = cases (eqb n x) refl e
  where
    cases : (b : Bool) → eqb n x ≡ b → T' ≡ T + cond b 1 0 * a → least < x
    cases true is e = let same : n ≡ x = grind (arith, nat_tests) in dite (dec_lt 0 T) h (λ z. let m = k (omega arith) in omega arith)
    cases false is e = h (omega arith)

-- a count
count_keeps : (jobs seats next done least id : ℕ) (vs : List Progress) (v : Progress) (n : ℕ) (was o : Outcome) → BoardRule jobs seats next done least vs → get_elem? vs id ≡ some v → 0 < v.weight → outcome_of n v.drawn ≡ Some was → EndsAs was o v.look n → BoardRule jobs seats next (done + 1) least (set vs id (after_outcome v n o))
count_keeps jobs seats next done least id vs v n was o r here heavy is may =
    let w = after_outcome v n o in
    let sum : (f : Drawn → ℕ) → total (in_pass f) (set vs id w) + f (entry n was) ≡ total (in_pass f) vs + f (entry n o) = total-after_outcome vs id v n was o here is in
    let ones : total (in_pass draw) (set vs id w) ≡ total (in_pass draw) vs = omega (arith, sum draw) in
    let dries : total dry_marks_of (set vs id w) ≡ total dry_marks_of vs = omega (arith, total-set dry_marks_of vs id v w here) in
    let weights : total weight_of (set vs id w) ≡ total weight_of vs = omega (arith, total-set weight_of vs id v w here) in
    let marked : (x : ℕ) → total (in_pass (mark_of x)) (set vs id w) ≡ total (in_pass (mark_of x)) vs = λ x. omega (arith, sum (mark_of x), ap (λ b. cond (eqb n x) 1 0 * b) may.same_marks) in
    let old = r.each_pass id v here in
    record {
      small = r.small;
      each_once = λ x. let e : total (in_pass (draw_of x)) (set vs id w) ≡ total (in_pass (draw_of x)) vs = omega (arith, sum (draw_of x)) in e ∙ r.each_once x;
      count = ones ∙ r.count;
      next_is = omega (arith, r.next_is);
      weights = weights ∙ r.weights;
      done_is = omega (arith, r.done_is, sum finish, may.was_pending, may.is_finished);
      least_under = λ x p. r.least_under x (omega (arith, marked x));
      least_marked = λ p. omega (arith, r.least_marked p, marked least);
      least_within = r.least_within;
      skipped_above = λ x p. skipped_above_look x n least v.look (skips o) (total (in_pass (skip_of x)) vs) (total (in_pass (skip_of x)) (set vs id w)) (omega (arith, sum (skip_of x), ap (λ b. cond (eqb n x) 1 0 * b) may.was_no_skip)) (r.skipped_above x) (old.look_from heavy) may.look_below p;
      each_pass = every-set (PassRule jobs least) vs id w r.each_pass (pass_rule jobs least w heavy (old.jobs_are heavy) old.dry_marks_within (old.look_from heavy));
    }

-- done never wraps
done_fits : (jobs seats next done least : ℕ) (vs : List Progress) → BoardRule jobs seats next done least vs → done + 1 < 18446744073709551616
done_fits jobs seats next done least vs r = omega (arith, r.small, r.done_is, r.count, total-le (in_pass finish) (in_pass draw) vs (λ id v e. sum_of-le finish draw (λ d. finishes-one d.outcome) v.drawn))

-- the same, as the step on the table asks for it
pub count_allowed : (jobs seats slots id : ℕ) (me : Me (Unit {0}) Progress) (n : ℕ) (was o : Outcome) → 0 < me.0.weight → outcome_of n me.0.drawn ≡ Some was → EndsAs was o me.0.look n
    → Allows (KeepsRule jobs seats) slots id me 1 (λ d. (d + 1) % 2 ^ 64) (CountTells n o (step slots 1 1 0 none) me)
count_allowed jobs seats slots id me n was o heavy is may s held _ here fits =
    let d : ℕ = get_or s.words 1 0 in
    let wraps : (d + 1) % 18446744073709551616 ≡ d + 1 = omega (arith, done_fits jobs seats _ d _ s.views held.1) in (
      after_outcome me.0 n o,
      keeps,
      tt,
      subst (λ (z : ℕ). KeepsRule jobs seats (stepped s 1 z id me.1 (after_outcome me.0 n o) keeps)) (sym wraps)
          (keeps_done jobs seats s.words s.homes _ (d + 1) held.0 (count_keeps jobs seats _ d _ id s.views me.0 n was o held.1 here heavy is may)),
      (refl, refl),
    )

-- a look changes no total
look_keeps : (jobs seats next done least id : ℕ) (vs : List Progress) (v : Progress) → BoardRule jobs seats next done least vs → get_elem? vs id ≡ some v → 0 < v.weight → BoardRule jobs seats next done least (set vs id (after_look v least))
look_keeps jobs seats next done least id vs v r here heavy =
    let w = after_look v least in
    let old = r.each_pass id v here in
    rule-same_totals jobs seats next done least vs (set vs id w) r
    (λ f. omega (arith, total-set (in_pass f) vs id v w here))
    (omega (arith, total-set dry_marks_of vs id v w here))
    (omega (arith, total-set weight_of vs id v w here))
    (every-set (PassRule jobs least) vs id w r.each_pass (pass_rule jobs least w heavy (old.jobs_are heavy) old.dry_marks_within (omega arith)))

-- the same, as the step on the table asks for it
pub look_allowed : (jobs seats slots id : ℕ) (me : Me (Unit {0}) Progress) → 0 < me.0.weight → Allows (KeepsRule jobs seats) slots id me 2 (λ l. l) (LookTells (step slots 2 0 0 none) me)
look_allowed jobs seats slots id me heavy s held _ here fits =
    let l : ℕ = get_or s.words 2 0 in
    let r = held.1 in
    let f = r.each_pass id me.0 here in (
      after_look me.0 l,
      keeps,
      tt,
      keeps_least jobs seats s.words s.homes _ l held.0 (look_keeps jobs seats _ _ l id s.views me.0 r here heavy),
      (refl, refl, omega (arith, r.least_within, f.jobs_are heavy), f.look_from heavy, (λ x p. r.least_under x (omega (arith, total-at (in_pass (mark_of x)) s.views id me.0 here)))),
    )

-- a new pass of weight 1 has nothing
pub split_allowed : (jobs seats id : ℕ) (v : Progress) → 1 < v.weight → v.dry_marks ≡ 0 → Splits (KeepsRule jobs seats) id v (record v { weight = v.weight - 1 }) (new_progress v.jobs 1)
split_allowed jobs seats id v heavy wet s held here =
    let r = held.1 in
    let w : Progress = record v { weight = v.weight - 1 } in
    let u : Progress = new_progress v.jobs 1 in
    let ws = set s.views id w in
    let old = r.each_pass id v here in
    let same = old.jobs_are (omega arith) in
    let least : ℕ = get_or s.words 2 0 in (
      held.0,
      rule-same_totals jobs seats _ _ least s.views (ws ++ u ∷ []) r
          (λ f. omega (arith, total-set (in_pass f) s.views id v w here, total-push (in_pass f) ws u))
          (omega (arith, total-set dry_marks_of s.views id v w here, total-push dry_marks_of ws u))
          (omega (arith, total-set weight_of s.views id v w here, total-push weight_of ws u))
          (every-push (PassRule jobs least) ws u
          (every-set (PassRule jobs least) s.views id w r.each_pass (pass_rule jobs least w (omega arith) same (omega arith) (old.look_from (omega arith))))
          (pass_rule jobs least u (omega arith) same (omega arith) (omega (arith, r.least_within)))),
    )

-- a total, after a join
total-joined : (f : Progress → ℕ) (vs : List Progress) (id other : ℕ) (v w : Progress) → get_elem? vs id ≡ some v → get_elem? (set vs id (joined v w)) other ≡ some w → f (joined v w) ≡ f v + f w → f spent_progress ≡ 0
    → total f (set (set vs id (joined v w)) other spent_progress) ≡ total f vs
total-joined f vs id other v w here there adds nothing = omega (arith, total-set f vs id v (joined v w) here, total-set f (set vs id (joined v w)) other w spent_progress there)

-- a join moves what one pass has to another
pub join_allowed : (jobs seats id other : ℕ) (v w : Progress) → 0 < v.weight → 0 < w.weight → Joins (KeepsRule jobs seats) id v other w (joined v w) spent_progress
join_allowed jobs seats id other v w heavy heavy' s held here apart there =
    let r = held.1 in
    let all : Progress = joined v w in
    let ws = set s.views id all in
    let old = r.each_pass id v here in
    let least : ℕ = get_or s.words 2 0 in
    let theirs : PassRule jobs least w = ⊎_elim (λ (x : (other ≡ id) × (all ≡ w)). absurd (apart x.0)) (λ (x : (other ≢ id) × (get_elem? s.views other ≡ some w)). r.each_pass other w x.1) (at_set s.views id other all w there) in (
      held.0,
      rule-same_totals jobs seats _ _ least s.views (set ws other spent_progress) r
          (λ f. total-joined (in_pass f) s.views id other v w here there (sum_of-append f v.drawn w.drawn) refl)
          (total-joined dry_marks_of s.views id other v w here there refl refl)
          (total-joined weight_of s.views id other v w here there refl refl)
          (every-set (PassRule jobs least) ws other spent_progress
          (every-set (PassRule jobs least) s.views id all r.each_pass (pass_rule jobs least all (omega arith) (old.jobs_are heavy) (omega (arith, old.dry_marks_within, theirs.dry_marks_within)) (omega (arith, old.look_from heavy, theirs.look_from heavy'))))
          (record { jobs_are = λ h. absurd (omega arith); dry_marks_within = omega arith; look_from = λ h. absurd (omega arith); nothing_left = λ z. refl })),
    )

-- what a count may do is one of three
pub ends_as : (p : Progress) (n : ℕ) (o : Outcome) → MayBecome p n o → (was : Outcome) × (outcome_of n p.drawn ≡ Some was) × EndsAs was o p.look n
ends_as p n Open h = absurd h
ends_as p n Marked h = absurd h
ends_as p n Passed h = (Open, h, record { was_pending = refl; is_finished = refl; same_marks = refl; was_no_skip = refl; look_below = λ z. absurd (omega arith) })
ends_as p n Failed h = (Marked, h, record { was_pending = refl; is_finished = refl; same_marks = refl; was_no_skip = refl; look_below = λ z. absurd (omega arith) })
ends_as p n Skipped h = (Open, h.0, record { was_pending = refl; is_finished = refl; same_marks = refl; was_no_skip = refl; look_below = λ z. h.1 })

-- a count that turns the number n into o
pub count_allowed_as : (jobs seats slots id : ℕ) (me : Me (Unit {0}) Progress) (n : ℕ) (o : Outcome) → 0 < me.0.weight → MayBecome me.0 n o
    → Allows (KeepsRule jobs seats) slots id me 1 (λ d. (d + 1) % 2 ^ 64) (CountTells n o (step slots 1 1 0 none) me)
count_allowed_as jobs seats slots id me n o heavy may = let e = ends_as me.0 n o may in count_allowed jobs seats slots id me n e.0 o heavy e.1 e.2
