-- The answer on the heap is the one that was found.
use Rattle.fr_traces.proofs.answers.answer_one.Goals as goal

pub returns-in_ok-new-clause-by : goal.returns-in_ok-new-clause-by
returns-in_ok-new-clause-by g c = rw c.in_ok-new.ensures c.in_ok-answer.ensures.by
