-- A board for the points of an application is never too large, and 1 to 64 workers are not too many.
use Rattle.std.proofs.Common.{ℕ, subst, ⊎_elim, arith}
use Rattle.fr_board.specs.declared.board.BoardFault.TheVariants.{Seats, Jobs}
use Rattle.fr_board.specs.Tally.{FaultStands, IsNewBoard}
use Rattle.fr_parallel.proofs.Sizes.{points-few}
use Rattle.fr_parallel.proofs.verdict.board_for.Goals as goal

pub returns-in-Ok-clause-new : goal.returns-in-Ok-clause-new
returns-in-Ok-clause-new c =
    subst (λ (n : ℕ). IsNewBoard n c.args.workers c.in-Ok.made.0 c.in-Ok.made.1.items) c.points.ensures c.in-Ok.ensures.new

pub unreachable-requires : goal.unreachable-requires
unreachable-requires c =
    let fault : FaultStands Seats c.points.result c.args.workers = subst (λ f. FaultStands f c.points.result c.args.workers) c.in-Err-Seats.field-0-is c.in-Err-Seats.ensures.fault in
    ⊎_elim (λ e. omega (arith, e, c.requires.0)) (λ h. omega (arith, h, c.requires.1)) fault

pub unreachable-requires-in-Err-Jobs : goal.unreachable-requires-in-Err-Jobs
unreachable-requires-in-Err-Jobs c =
    let fault : FaultStands Jobs c.points.result c.args.workers = subst (λ f. FaultStands f c.points.result c.args.workers) c.in-Err-Jobs.field-0-is c.in-Err-Jobs.ensures.fault in
    omega (arith, fault.1, c.points.ensures, points-few c.args.app.now c.recall_faultless.ensures.small)
