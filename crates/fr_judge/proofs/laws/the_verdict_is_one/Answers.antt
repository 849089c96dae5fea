-- The law is the lemma.
use Rattle.fr_judge.proofs.Unique.{one-verdict}
use Rattle.fr_judge.proofs.laws.the_verdict_is_one.Goals as goal

pub returns : goal.returns
returns c = one-verdict
