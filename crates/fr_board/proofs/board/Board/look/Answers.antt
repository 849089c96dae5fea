use Rattle.std.proofs.Common.{◌≡◌, ap, sym, ◌∙◌, subst, arith}
use Rattle.fr_board.specs.declared.progress.Progress.{Progress}
use Rattle.fr_board.specs.declared.progress.Outcome.TheVariants.{Failed}
use Rattle.std.proofs.Common.{Some}
use Rattle.fr_board.proofs.Sums.{marked-outcome_of}
use Rattle.fr_board.proofs.Steps.{look_allowed}
use Rattle.fr_board.proofs.board.Board.look.Goals as goal
use Rattle.fr_board.specs.Drawn.{outcome_of}

pub load-found-requires : goal.load-found-requires
load-found-requires c =
    let table = ap (λ p. p.table) c.pass.view_is ∙ c.requires.0 ∙ sym (ap (λ b. b.table) c.self.view_is) in
    (table, omega (arith, c.self.invariant.0), look_allowed _ _ _ _ _ c.pass.invariant.1)

pub returns-clause-failed : goal.returns-clause-failed
returns-clause-failed c x is =
    let known = sym (ap (λ p. p.progress) c.pass.view_is) in
    let is' = subst (λ (z : Progress). outcome_of x z.drawn ≡ Some Failed) known is in
    c.load-found.ensures.2.4 x (marked-outcome_of x _ is')
