use Rattle.fr_ends.proofs.TurnLemmas.{is_value}
use Rattle.fr_ends.proofs.fits.is_turn_value.Goals as goal

pub returns : goal.returns
returns c = is_value c.args.count c.args.actor.0 c.args.value c.ranges.value
