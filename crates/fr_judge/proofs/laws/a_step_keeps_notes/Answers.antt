-- The law is the lemma.
use Rattle.fr_judge.proofs.Induction.{a-step-keeps}
use Rattle.fr_judge.proofs.laws.a_step_keeps_notes.Goals as goal

pub returns : goal.returns
returns c = a-step-keeps
