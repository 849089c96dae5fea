-- The law is the lemma.
use Rattle.fr_judge.proofs.Failing.{failing-owed}
use Rattle.fr_judge.proofs.laws.only_owed_parts_fail.Goals as goal

pub returns : goal.returns
returns c = failing-owed
