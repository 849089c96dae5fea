use Rattle.std.proofs.Common.{ap, sym, ◌∙◌, arith}
use Rattle.fr_board.proofs.Steps.{join_allowed}
use Rattle.fr_board.proofs.board.Board.join.Goals as goal

pub join_seat-requires : goal.join_seat-requires
join_seat-requires c =
    let table = ap (λ p. p.table) c.pass.view_is ∙ c.requires.0.0 ∙ sym (ap (λ b. b.table) c.self.view_is) in
    let other = ap (λ p. p.table) c.other.view_is ∙ c.requires.1.0 ∙ sym (ap (λ b. b.table) c.self.view_is) in
    (table, other, c.other.invariant.0, omega (arith, c.self.invariant.0), join_allowed _ _ _ _ _ _ c.pass.invariant.1 c.other.invariant.1)
