use Rattle.fr_traces.proofs.answered.answer_as_asked.Goals as goal

pub returns-clause-answer : goal.returns-clause-answer
returns-clause-answer c =
    let h = c.in_ok-answer_of.ensures in
    (c.in_ok-timed.timed, c.in_ok-timed.ensures, c.in_ok-followed.followed, c.in_ok-followed.ensures, h.kind, h.line.0, h.line.1, h.run)
