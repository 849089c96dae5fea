-- The law is the lemma.
use Rattle.fr_text.proofs.OneAnswer.{one-answer}
use Rattle.fr_text.proofs.laws.the_answer_is_one.Goals as goal

pub returns : goal.returns
returns c = one-answer
