-- The start is well formed part by part.
use Rattle.fr_rules.proofs.Built.{is-built}
use Rattle.fr_rules.proofs.Formed.{start-formed}
use Rattle.fr_calls.proofs.laws.the_start_is_well_formed.Goals as goal

pub returns : goal.returns
returns c = λ P f. start-formed P (is-built P f)
