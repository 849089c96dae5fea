use Rattle.std.specs.Prelude.{◌≢◌, Contains}
use Rattle.fr_effects.proofs.Terms.{Point, IsPoint, Alternative, IsAmong, IsSparedByRows}
use Rattle.fr_effects.proofs.disturbance.is_each_spared.Given as goal

abbrev pub invariant-loop-alternative : goal.invariant-loop-alternative
invariant-loop-alternative l =
    (p : Point) → IsPoint l.mover.app.now p → p.actor ≢ l.mover.point.actor → (n : Alternative) → IsAmong l.alternative-items l.alternative-index n → (m : Alternative) → Contains l.mover.note.now m → IsSparedByRows l.mover.app.now p n l.mover.point m l.note
