-- What a draw and its judgement keep of a worker's turn, and what a join keeps of two.
use Rattle.std.proofs.Common.{◌≡◌, ℕ, suc, ◌+◌, ◌-◌, ◌<◌, ◌≤◌, max, List, [], ◌∷◌, ◌++◌, sym, ap, ◌∙◌, subst, arith}
use Rattle.std.proofs.lemmas.List.Elements.{All-push, All-append}
use Rattle.fr_board.specs.declared.progress.Outcome.TheVariants.{Open}
use Rattle.fr_board.specs.declared.progress.Drawn.{Drawn}
use Rattle.fr_board.specs.declared.progress.Progress.{Progress}
use Rattle.fr_board.specs.Drawn.{entry, IsAbove}
use Rattle.fr_board.specs.Progress.{after_draw, after_look, after_outcome, joined}
use Rattle.fr_board.specs.Values.{BoardValue, PassValue, IsOf}
use Rattle.fr_board.proofs.Sums.{with_outcome-push}
use Rattle.fr_worker.specs.Worked.{IsRight, AreRight, Settles, IsGathered}

-- one more than the greatest number that was drawn
abbrev pub end_of : List Drawn → ℕ
end_of [] = 0
end_of (d ∷ ds) = max (suc d.number) (end_of ds)

end_of-above : (n : ℕ) (ds : List Drawn) → IsAbove n ds → end_of ds ≤ n
end_of-above n [] h = omega arith
end_of-above n (d ∷ ds) h =
    omega (arith, h 0 d (omega arith), end_of-above n ds (λ k e short. h (suc k) e (omega arith)))

end_of-push : (ds : List Drawn) (d : Drawn) → suc d.number ≤ end_of (ds ++ d ∷ [])
end_of-push [] d = omega arith
end_of-push (x ∷ ds) d = omega (arith, end_of-push ds d)

-- a worker's progress p before a draw, and q after the judgement of what was drawn
pub record Onward (Keeps : ℕ → Type 0) (jobs : ℕ) (p q : Progress) : Type 0 where
  pub jobs_same : q.jobs ≡ p.jobs
  pub weight_same : q.weight ≡ p.weight
  pub right : AreRight Keeps p.drawn → AreRight Keeps q.drawn
  pub nearer : jobs - end_of q.drawn < jobs - end_of p.drawn

pub onward : (Keeps : ℕ → Type 0) (jobs : ℕ) (p u q : Progress) (n : ℕ) → u ≡ after_draw p n → IsAbove n p.drawn → n < jobs → Settles Keeps u n q → Onward Keeps jobs p q
onward Keeps jobs p u q n is above below s =
    let o = s.0 in
    let look = s.1 in
    let became : q ≡ after_look (after_outcome (after_draw p n) n o) look = s.3 ∙ ap (λ (z : Progress). after_look (after_outcome z n o) look) is in
    let drawn : q.drawn ≡ p.drawn ++ entry n o ∷ [] = ap (λ (z : Progress). z.drawn) became ∙ with_outcome-push n o Open p.drawn above in
    let high : suc n ≤ end_of q.drawn = subst (λ (l : List Drawn). suc n ≤ end_of l) (sym drawn) (end_of-push p.drawn (entry n o)) in
    let low = end_of-above n p.drawn above in
    record {
      jobs_same = ap (λ (z : Progress). z.jobs) became;
      weight_same = ap (λ (z : Progress). z.weight) became;
      right = λ r. subst (AreRight Keeps) (sym drawn) (All-push (λ (d : Drawn). IsRight (Keeps d.number) d.outcome) p.drawn (entry n o) r s.2);
      nearer = omega arith;
    }

pub joined-gathered : (b : BoardValue) (Keeps : ℕ → Type 0) (m n : ℕ) (p q r : PassValue) → IsGathered b Keeps m p → IsGathered b Keeps n q → IsOf b r → r.progress ≡ joined p.progress q.progress → IsGathered b Keeps (m + n) r
joined-gathered b Keeps m n p q r h k own is =
    let drawn : r.progress.drawn ≡ p.progress.drawn ++ q.progress.drawn = ap (λ (z : Progress). z.drawn) is in
    let weight : r.progress.weight ≡ p.progress.weight + q.progress.weight = ap (λ (z : Progress). z.weight) is in
    let dry : r.progress.dry_marks ≡ p.progress.dry_marks + q.progress.dry_marks = ap (λ (z : Progress). z.dry_marks) is in
    record {
      own = own;
      weight = omega (arith, h.weight, k.weight);
      dry = omega (arith, h.dry);
      right = subst (AreRight Keeps) (sym drawn) (All-append (λ (d : Drawn). IsRight (Keeps d.number) d.outcome) p.progress.drawn q.progress.drawn h.right k.right);
    }
