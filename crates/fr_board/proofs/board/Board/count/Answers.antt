use Rattle.std.proofs.Common.{ap, sym, ◌∙◌, subst, arith}
use Rattle.fr_board.proofs.Steps.{count_allowed_as}
use Rattle.fr_board.specs.declared.progress.Progress.{Progress}
use Rattle.std.proofs.Common.{ℕ}
use Rattle.fr_board.proofs.board.Board.count.Goals as goal
use Rattle.fr_board.specs.Values.{MayBecome}

pub fetch_add-requires : goal.fetch_add-requires
fetch_add-requires g c =
    let table = ap (λ p. p.table) c.pass.view_is ∙ c.requires.own.0 ∙ sym (ap (λ b. b.table) c.self.view_is) in
    let known = sym (ap (λ p. p.progress) c.pass.view_is) in
    let may = subst (λ (z : Progress). MayBecome z g.E.Ending.number g.E.Ending.outcome) known (subst (λ (k : ℕ). MayBecome c.args.pass.now.progress k g.E.Ending.outcome) c.requires.number c.requires.may) in
    (table, omega (arith, c.self.invariant.0), count_allowed_as _ _ _ _ _ _ _ c.pass.invariant.1 may)
