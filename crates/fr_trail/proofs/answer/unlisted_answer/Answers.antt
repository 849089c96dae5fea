use Rattle.fr_trail.proofs.answer.unlisted_answer.Goals as goal

pub returns-clause-line : goal.returns-clause-line
returns-clause-line c = (_, c.in_ok-format.ensures.ok)
