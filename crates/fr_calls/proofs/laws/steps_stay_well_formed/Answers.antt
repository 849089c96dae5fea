-- The state after the row is well formed, and so it is with the actor moved.
use Rattle.fr_rules.proofs.Built.{is-built}
use Rattle.fr_rules.proofs.Formed.{step-formed}
use Rattle.fr_calls.proofs.laws.steps_stay_well_formed.Goals as goal

pub returns : goal.returns
returns c = λ P f S a c S' w keeps t. (step-formed P t.0 S a c S' (is-built P f) w keeps t.1).formed
