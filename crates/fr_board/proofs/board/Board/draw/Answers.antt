use Rattle.std.proofs.Common.{◌≡◌, ap, sym, ◌∙◌, arith, true≢false}
use native.Mathlib.Decide.{dec_lt}
use mathlib.Core.Logic.{dite}
use Rattle.std.proofs.Common.{subst, Some}
use Rattle.fr_board.specs.declared.progress.Progress.{Progress}
use Rattle.fr_board.specs.declared.progress.Outcome.TheVariants.{Open}
use Rattle.fr_board.proofs.Sums.{outcome_of-push}
use Rattle.fr_board.proofs.Steps.{draw_allowed}
use Rattle.fr_board.proofs.board.Board.draw.Goals as goal
use Rattle.fr_board.specs.Drawn.{outcome_of}

pub fetch_add-found-requires : goal.fetch_add-found-requires
fetch_add-found-requires c =
    let table = ap (λ p. p.table) c.pass.view_is ∙ c.requires.0 ∙ sym (ap (λ b. b.table) c.self.view_is) in
    let jobs = ap (λ p. p.progress.jobs) c.pass.view_is ∙ c.requires.1 ∙ sym (ap (λ b. b.jobs) c.self.view_is) in
    let wet : c.pass.inside.seat.me.0.dry_marks ≡ 0 = dite (dec_lt 0 c.pass.inside.seat.me.0.dry_marks) (λ lt. absurd (true≢false (sym (c.pass.invariant.2.1 lt) ∙ c.if-pass.false))) (λ ge. omega arith) in
    (table, omega (arith, c.self.invariant.0), draw_allowed _ _ _ _ _ jobs wet c.pass.invariant.1)

pub returns-then-found-self-clause-is_open : goal.returns-then-found-self-clause-is_open
returns-then-found-self-clause-is_open c =
    let jobs = ap (λ p. p.progress.jobs) c.pass.view_is ∙ c.requires.1 ∙ sym (ap (λ b. b.jobs) c.self.view_is) ∙ sym c.self.invariant.2 in
    let told = c.fetch_add-found.ensures.2.1 (omega (arith, c.if-found-self.true)) in
    subst (λ (z : Progress). outcome_of c.fetch_add-found.result z.drawn ≡ Some Open) (sym told.0) (outcome_of-push c.fetch_add-found.result Open c.pass.inside.seat.me.0.drawn told.1)
