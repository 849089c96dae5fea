-- Each wait of the cycle is still one after the step.
use Rattle.fr_waits.proofs.Forever.{for-good}
use Rattle.fr_waits.proofs.laws.a_cycle_is_for_good.Goals as goal

pub returns : goal.returns
returns c = for-good
