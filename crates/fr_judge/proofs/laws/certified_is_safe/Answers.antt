-- The law is the lemma.
use Rattle.fr_judge.proofs.Induction.{certified-safe}
use Rattle.fr_judge.proofs.laws.certified_is_safe.Goals as goal

pub returns : goal.returns
returns c = certified-safe
