-- fr_traces/proofs/answers/answer_shown/Answers.antt
-- The answer on the heap is the one that was found.
use Rattle.std.proofs.Common.{◌≡◌, Result, Ok, Err, IfOk, subst, sym}
use Rattle.fr_traces.proofs.Terms.{TraceAnswer, Reads, IsAnswerAt, answered_at}
use Rattle.fr_traces.proofs.answers.answer_shown.Goals as goal

kept : {E : Type 0} (Is : TraceAnswer → Type 0) (answer : TraceAnswer) (r : Result TraceAnswer E) → IfOk r (λ boxed. boxed ≡ answer) → Is answer → IfOk r Is
kept Is answer (Ok boxed) same is = subst Is (sym same) is
kept Is answer (Err e) same is = tt

pub returns-in-Ok : goal.returns-in-Ok
returns-in-Ok g c =
    let reads = Reads (g.F.Files.Gives c.args.files.now) g.F.Files.Means in
    record { by = kept (λ answer. IsAnswerAt reads c.args.asked.now c.args.app.now (answered_at c.args.path.now answer)) c.in-Ok.answer c.new.result c.new.ensures c.in-Ok.ensures.by }
