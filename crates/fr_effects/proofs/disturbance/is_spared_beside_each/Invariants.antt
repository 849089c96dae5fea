use Rattle.std.specs.Prelude.{◌≢◌}
use Rattle.fr_effects.proofs.Terms.{Point, IsPoint, Alternative, IsAmong, IsSparedByRows}
use Rattle.fr_effects.proofs.disturbance.is_spared_beside_each.Given as goal

abbrev pub invariant-loop-other : goal.invariant-loop-other
invariant-loop-other l =
    (p : Point) → IsPoint l.mover.app.now p → p.actor ≢ l.mover.point.actor → (m : Alternative) → IsAmong l.other-items l.other-index m → IsSparedByRows l.mover.app.now p l.alternative l.mover.point m l.note
