-- fr_traces/proofs/answers/answer_at/Answers.antt
-- The answer is that to the trace in the file.
use Rattle.std.proofs.Common.{◌≤◌, arith, rules, option_map, string_bytes, subst}
use Rattle.std.specs.Option.{is_some}
use Rattle.fr_traces.specs.Traces.{IsTraceAnswer}
use Rattle.fr_traces.proofs.Terms.{kind_status}
use Rattle.fr_traces.proofs.answers.answer_at.Goals as goal

pub returns-in-Ok-clause-by : goal.returns-in-Ok-clause-by
returns-in-Ok-clause-by g c =
    let asked = c.args.asked.now in
    let answer = c.in-Ok.answer in
    let most : kind_status answer.kind ≤ 1 = c.in-Ok.ensures.most in
    let own : IsTraceAnswer asked.any_times asked.from_anywhere (is_some asked.run) c.args.app.now c.deref.result.now answer.kind (string_bytes answer.line) (option_map string_bytes answer.run) =
    subst (λ w. IsTraceAnswer asked.any_times asked.from_anywhere w c.args.app.now c.deref.result.now answer.kind (string_bytes answer.line) (option_map string_bytes answer.run)) c.is_some.ensures c.in-Ok.ensures.answer in
    record { by = λ le. (search rules); none = λ least. absurd (omega (arith, most, least)) }
