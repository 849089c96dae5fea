-- fr_traces/proofs/outputs/put_outputs/Answers.antt
-- The run and the page are those of the answer.
use Rattle.std.proofs.Common.{sym}
use Rattle.fr_traces.proofs.Following.{ok-map}
use Rattle.fr_traces.proofs.outputs.put_outputs.Goals as goal

pub returns-clause-put : goal.returns-clause-put
returns-clause-put g c = rw (c.in-Some.is, sym c.get-answer.ensures) (c.put_run.new.files, c.put_run.ensures.put, c.put_page.ensures.put)

pub returns-clause-done : goal.returns-clause-done
returns-clause-done g c =
    rw (c.in-Some.is, sym c.get-answer.ensures) (ok-map _ _ c.put_page.result (λ paged. (c.put_run.new.files, c.in_ok-put_run.ensures.done, paged)) c.put_page.ensures.done)
