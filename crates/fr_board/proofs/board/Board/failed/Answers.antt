use Rattle.std.proofs.Common.{◌≡◌, ap, sym, ◌∙◌, subst, arith}
use Rattle.fr_board.specs.declared.progress.Progress.{Progress}
use Rattle.fr_board.specs.declared.progress.Outcome.TheVariants.{Open, Marked, Failed}
use Rattle.std.proofs.Common.{ℕ, Some, List}
use Rattle.fr_board.specs.declared.progress.Drawn.{Drawn}
use Rattle.fr_board.proofs.Sums.{outcome_of-with_outcome, with_outcome-with_outcome}
use Rattle.fr_board.proofs.Steps.{least_allowed}
use Rattle.fr_board.proofs.board.Board.failed.Goals as goal
use Rattle.fr_board.specs.Drawn.{outcome_of}
use Rattle.fr_board.specs.Progress.{after_outcome}

pub fetch_min-requires : goal.fetch_min-requires
fetch_min-requires c =
    let table = ap (λ p. p.table) c.pass.view_is ∙ c.requires.own.0 ∙ sym (ap (λ b. b.table) c.self.view_is) in
    let known = sym (ap (λ p. p.progress) c.pass.view_is) in
    let is = subst (λ (z : Progress). outcome_of c.claim.inside.number z.drawn ≡ Some Open) known (subst (λ (k : ℕ). outcome_of k c.args.pass.now.progress.drawn ≡ Some Open) (sym c.claim.view_is) c.requires.claim) in
    (table, omega (arith, c.self.invariant.0), least_allowed _ _ _ _ _ _ c.pass.invariant.1 is)

pub count-requires-clause-may : goal.count-requires-clause-may
count-requires-clause-may c =
    let known = sym (ap (λ p. p.progress) c.pass.view_is) in
    let is = subst (λ (z : Progress). outcome_of c.claim.inside.number z.drawn ≡ Some Open) known (subst (λ (k : ℕ). outcome_of k c.args.pass.now.progress.drawn ≡ Some Open) (sym c.claim.view_is) c.requires.claim) in
    let marked = outcome_of-with_outcome c.claim.inside.number Marked Open c.pass.inside.seat.me.0.drawn is in
    subst (λ (z : Progress). outcome_of c.claim.inside.number z.drawn ≡ Some Marked) (sym c.fetch_min.ensures.2.1) marked

pub returns-clause-failed : goal.returns-clause-failed
returns-clause-failed c =
    let known = ap (λ p. p.progress) c.pass.view_is in
    let n = c.claim.inside.number in
    let v = c.pass.inside.seat.me.0 in
    let draw = c.count.ensures.became ∙ ap (λ (z : Progress). after_outcome z n Failed) c.fetch_min.ensures.2.1 in
    let two : after_outcome (after_outcome v n Marked) n Failed ≡ after_outcome v n Failed = ap (λ (l : List Drawn). record v { drawn = l }) (with_outcome-with_outcome n Failed Marked v.drawn) in
    let three : after_outcome v n Failed ≡ after_outcome c.args.pass.now.progress c.args.claim Failed = λ i. after_outcome (known i) (c.claim.view_is i) Failed in
    draw ∙ two ∙ three
