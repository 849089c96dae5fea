-- Who is in a cycle waits, and who waits has no step.
use Rattle.fr_waits.proofs.Stuck.{nobody-moves}
use Rattle.fr_waits.proofs.laws.nobody_in_a_cycle_moves.Goals as goal

pub returns : goal.returns
returns c = nobody-moves
