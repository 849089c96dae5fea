-- The law is the lemma.
use Rattle.fr_judge.proofs.Induction.{the-start-keeps}
use Rattle.fr_judge.proofs.laws.the_start_keeps_notes.Goals as goal

pub returns : goal.returns
returns c = the-start-keeps
