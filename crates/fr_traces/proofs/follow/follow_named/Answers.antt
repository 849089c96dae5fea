-- fr_traces/proofs/follow/follow_named/Answers.antt
-- The answer is that to the one trace.
use Rattle.std.proofs.Common.{ap, map, rules}
use Rattle.fr_traces.proofs.follow.follow_named.Goals as goal

pub returns-in_ok-answer-in-Some-clause-by : goal.returns-in_ok-answer-in-Some-clause-by
returns-in_ok-answer-in-Some-clause-by g c =
    (c.in-Some.path.now, ap (map (λ s. s.now)) c.in-Some.ensures.some, c.in_ok-answer-in-Some.ensures.by, (search rules))
