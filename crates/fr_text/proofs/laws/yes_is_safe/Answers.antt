-- The law is the lemma.
use Rattle.fr_text.proofs.Theorem.{yes-is-safe}
use Rattle.fr_text.proofs.laws.yes_is_safe.Goals as goal

pub returns : goal.returns
returns c = yes-is-safe
