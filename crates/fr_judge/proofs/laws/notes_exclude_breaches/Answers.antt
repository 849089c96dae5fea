-- The law is the lemma.
use Rattle.fr_judge.proofs.Induction.{no-breaches}
use Rattle.fr_judge.proofs.laws.notes_exclude_breaches.Goals as goal

pub returns : goal.returns
returns c = no-breaches
