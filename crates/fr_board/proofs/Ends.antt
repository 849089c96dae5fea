-- What is known once no thread has the board any more: the rule held with the last words, and each clause of the answer is read off it.
-- Where all numbers are finished, none is pending, so a marked number is a failed one; where one pass has all the weight, each sum over all passes is its own.
use Rattle.std.proofs.Common.{◌≡◌, ℕ, zero, suc, ◌*◌, ◌<◌, ◌≤◌, List, min, eqb, refl, sym, ap, ◌∙◌, subst, arith}
use mathlib.Core.Option.{some}
use mathlib.Core.Logic.{dite}
use native.Mathlib.Decide.{dec_lt}
use lib.ListN.{get_elem?}
use Rattle.std.specs.Prelude.{Option, Some, None, Result, Ok, Err, MatchOption, MatchResult, IfOk, IfErr, unwrap_or}
use Rattle.fr_board.specs.declared.board.Tally.{Tally}
use Rattle.fr_board.specs.declared.board.Unfinished.{Unfinished}
use Rattle.fr_board.specs.declared.progress.Drawn.{Drawn}
use Rattle.fr_board.specs.declared.progress.Progress.{Progress}
use Rattle.fr_board.specs.Drawn.{sum_of, draw, draw_of, finish, finish_of, mark_of, failure_of, skip_of, finishes, marks, failures, skips}
use Rattle.fr_board.specs.Progress.{total, in_pass, dry_marks_of}
use Rattle.fr_board.specs.Rule.{once_below, BoardRule}
use Rattle.fr_board.specs.Tally.{TallyBy, IsTally, IsTallyOf, DrewEach, LooksFrom, IsSettled, Standing, IsUnsettled, EndedWith, AnswersBy}
use Rattle.fr_board.proofs.Outcomes.{pending, pending_draw, finishes-pending, failures-one, skips-one, failures-marks, marks-failures, flag-add, flag-le, flag-one, flag-below, flag-sum}
use Rattle.fr_board.proofs.Sums.{total-at, total-add, total-under, total-over, total-alone, sum_of-draw, once_below-is, once_below-not, once_below-one, All-views, Contains-view}

zero_if : (n : ℕ) → (0 < n → ⊥) → n ≡ 0
zero_if zero h = refl
zero_if (suc n) h = absurd (h (omega arith))

-- the rule, with the words and the pass that it ended with
module _ (jobs seats next done least id : ℕ) (vs : List Progress) (v : Progress) (r : BoardRule jobs seats next done least vs) (here : get_elem? vs id ≡ some v) where
  -- where one pass has all the weight, each total is its sum
  alone : v.weight ≡ seats → (f : Drawn → ℕ) → total (in_pass f) vs ≡ sum_of f v.drawn
  alone all f = total-alone (in_pass f) vs id v here (r.weights ∙ sym all) (λ j u e z. ap (sum_of f) ((r.each_pass j u e).nothing_left z))

  -- a dry pass of full weight has drawn each number
  drew_each : v.weight ≡ seats → 0 < v.dry_marks → DrewEach jobs v
  drew_each all dry =
      let past : min next jobs ≡ jobs = omega (arith, r.next_is, r.count, total-at dry_marks_of vs id v here) in record {
        count = sym (sum_of-draw v.drawn) ∙ sym (alone all draw) ∙ r.count ∙ past;
        each_once = λ x lt. sym (alone all (draw_of x)) ∙ r.each_once x ∙ ap (once_below x) past ∙ once_below-is x jobs lt;
        no_other = λ x le. sym (alone all (draw_of x)) ∙ r.each_once x ∙ ap (once_below x) past ∙ once_below-not x jobs le;
      }

  looks_from : LooksFrom least vs
  looks_from = All-views (λ p. 0 < p.weight → least ≤ p.look) vs (λ j u e. (r.each_pass j u e).look_from)

  standing : Standing jobs least vs
  standing = record {
    at_most_once = λ x. omega (arith, r.each_once x, once_below-one x (min next jobs));
    no_other = λ x le. r.each_once x ∙ once_below-not x (min next jobs) (omega arith);
    least_under = r.least_under;
    least_marked = r.least_marked;
    least_within = r.least_within;
    skipped = λ x le. zero_if (total (in_pass (skip_of x)) vs) (λ p. let q = r.skipped_above x p in omega arith);
    looks = looks_from;
  }

  module _ (all : jobs ≤ done) where
    past : min next jobs ≡ jobs
    past = omega (arith, r.done_is, r.count, total-add finish pending_draw draw (λ d. finishes-pending d.outcome) vs)

    none_pending : total (in_pass pending_draw) vs ≡ 0
    none_pending = omega (arith, r.done_is, r.count, total-add finish pending_draw draw (λ d. finishes-pending d.outcome) vs)

    done-jobs : done ≡ jobs
    done-jobs = omega (arith, r.done_is, r.count, total-add finish pending_draw draw (λ d. finishes-pending d.outcome) vs)

    once : (x : ℕ) → x < jobs → total (in_pass (draw_of x)) vs ≡ 1
    once x lt = r.each_once x ∙ ap (once_below x) past ∙ once_below-is x jobs lt

    never : (x : ℕ) → jobs ≤ x → total (in_pass (draw_of x)) vs ≡ 0
    never x le = r.each_once x ∙ ap (once_below x) past ∙ once_below-not x jobs le

    finished_once : (x : ℕ) → x < jobs → total (in_pass (finish_of x)) vs ≡ 1
    finished_once x lt =
        let parts = total-add (finish_of x) (λ d. draw_of x d * pending d.outcome) (draw_of x) (λ d. flag-add (eqb d.number x) (finishes d.outcome) (pending d.outcome) (finishes-pending d.outcome)) vs in
        let some_pending = total-under (λ d. draw_of x d * pending d.outcome) pending_draw (λ d. flag-below (eqb d.number x) (pending d.outcome)) vs in
        omega (arith, once x lt, none_pending)

    failures_within : (x : ℕ) → total (in_pass (failure_of x)) vs ≤ total (in_pass (draw_of x)) vs
    failures_within x = total-under (failure_of x) (draw_of x) (λ d. flag-one (eqb d.number x) (failures d.outcome) (failures-one d.outcome)) vs

    skips_within : (x : ℕ) → total (in_pass (skip_of x)) vs ≤ total (in_pass (draw_of x)) vs
    skips_within x = total-under (skip_of x) (draw_of x) (λ d. flag-one (eqb d.number x) (skips d.outcome) (skips-one d.outcome)) vs

    none_failed_below : (x : ℕ) → x < least → total (in_pass (failure_of x)) vs ≡ 0
    none_failed_below x lt =
        let under = total-under (failure_of x) (mark_of x) (λ d. flag-le (eqb d.number x) (failures d.outcome) (marks d.outcome) (failures-marks d.outcome)) vs in
        zero_if (total (in_pass (failure_of x)) vs) (λ p. let q = r.least_under x (omega arith) in omega arith)

    least_failed : least < jobs → total (in_pass (failure_of least)) vs ≡ 1
    least_failed lt =
        let over = total-over (mark_of least) (failure_of least) pending_draw (λ d. flag-sum (eqb d.number least) (marks d.outcome) (failures d.outcome) (pending d.outcome) (marks-failures d.outcome)) vs in
        omega (arith, once least lt, r.least_marked lt, failures_within least, none_pending)

    none_skipped_to : (x : ℕ) → x ≤ least → total (in_pass (skip_of x)) vs ≡ 0
    none_skipped_to x le = zero_if (total (in_pass (skip_of x)) vs) (λ p. let q = r.skipped_above x p in omega arith)

    -- the tally: a number from jobs on was never drawn
    tally : (o : Option ℕ) → MatchOption o (jobs ≤ least) (λ n. (n ≡ least) × (least < jobs)) → IsTally jobs o vs
    tally (Some n) is = record {
      each_once = once;
      each_finished = finished_once;
      no_other = never;
      least_is = (ap (λ k. total (in_pass (failure_of k)) vs) is.0 ∙ least_failed is.1, (λ x lt. none_failed_below x (omega (arith, is.0))));
      skipped = λ x le. none_skipped_to x (omega (arith, is.0));
    }
    tally None is = record {
      each_once = once;
      each_finished = finished_once;
      no_other = never;
      least_is = λ x. dite (dec_lt x jobs) (λ lt. none_failed_below x (omega arith)) (λ ge. omega (arith, failures_within x, never x (omega arith)));
      skipped = λ x. dite (dec_lt x jobs) (λ lt. none_skipped_to x (omega arith)) (λ ge. omega (arith, skips_within x, never x (omega arith)));
    }

    least_of : (o : Option ℕ) → MatchOption o (jobs ≤ least) (λ n. (n ≡ least) × (least < jobs)) → unwrap_or o jobs ≡ least
    least_of (Some n) is = is.0
    least_of None is = omega (arith, r.least_within)

    is_settled : (o : Option ℕ) → MatchOption o (jobs ≤ least) (λ n. (n ≡ least) × (least < jobs)) → IsSettled jobs o v
    is_settled o is = (vs, Contains-view vs id v here, tally o is, subst (λ k. LooksFrom k vs) (sym (least_of o is)) looks_from)

    -- the tally of all passes is that of the only one
    tally_alone : (o : Option ℕ) → MatchOption o (jobs ≤ least) (λ n. (n ≡ least) × (least < jobs)) → v.weight ≡ seats → (sum_of finish v.drawn ≡ jobs) × IsTallyOf jobs o v
    tally_alone o is full = (sym (alone full finish) ∙ sym r.done_is ∙ done-jobs, subst (TallyBy jobs o) (λ i f. alone full f i) (tally o is))

-- each clause of the answer
module _ (jobs seats done least id : ℕ) (v : Progress) (e : EndedWith jobs seats done least id v) where
  pub ended_drew : v.weight ≡ seats → 0 < v.dry_marks → DrewEach jobs v
  ended_drew all dry = drew_each jobs seats e.0 done least id e.1 v e.2 e.3 all dry

  pub ended_tally : (a : Result Tally Unfinished) → AnswersBy jobs done least a → IfOk a (λ t. (t.jobs ≡ jobs) × IsSettled jobs t.least v)
  ended_tally (Ok t) is = (is.1, is_settled jobs seats e.0 done least id e.1 v e.2 e.3 is.0 t.least is.2)
  ended_tally (Err u) is = tt

  pub ended_looked : 0 < v.weight → (a : Result Tally Unfinished) → AnswersBy jobs done least a → IfOk a (λ t. unwrap_or t.least jobs ≤ v.look)
  ended_looked heavy (Ok t) is = omega (arith, least_of jobs seats e.0 done least id e.1 v e.2 e.3 is.0 t.least is.2, (e.2.each_pass id v e.3).look_from heavy)
  ended_looked heavy (Err u) is = tt

  pub ended_unfinished : (a : Result Tally Unfinished) → AnswersBy jobs done least a → IfErr a (λ u. (u.done < jobs) × IsUnsettled jobs u.done v)
  ended_unfinished (Ok t) is = tt
  ended_unfinished (Err u) is = (omega (arith, is.0, is.1), (e.1, Contains-view e.1 id v e.3, is.1 ∙ e.2.done_is, least, standing jobs seats e.0 done least id e.1 v e.2 e.3))

  pub ended_whole : (a : Result Tally Unfinished) → AnswersBy jobs done least a → v.weight ≡ seats → MatchResult a (λ t. (sum_of finish v.drawn ≡ jobs) × IsTallyOf jobs t.least v) (λ u. u.done ≡ sum_of finish v.drawn)
  ended_whole (Ok t) is full = tally_alone jobs seats e.0 done least id e.1 v e.2 e.3 is.0 t.least is.2 full
  ended_whole (Err u) is full = is.1 ∙ e.2.done_is ∙ alone jobs seats e.0 done least id e.1 v e.2 e.3 full finish
