-- The report shows the answer.
use Rattle.std.proofs.Common.{option_map, string_bytes}
use Rattle.fr_traces.proofs.Terms.{lines_text, ShowsTrace, TraceAnswerAt}
use Rattle.fr_traces.proofs.Following.{reported-of}
use Rattle.fr_traces.proofs.printed.report_one.Goals as goal

pub returns-clause-printed : goal.returns-clause-printed
returns-clause-printed g c =
    let answer = c.args.answer.now in
    let t : TraceAnswerAt = record { path = c.args.path.now; kind = answer.kind; line = string_bytes answer.line; more = lines_text answer.why.items; run = option_map string_bytes answer.run } in
    let shown = c.in_ok-shown.shown in
    let shows : ShowsTrace c.args.asked.now.app.now t shown = record { application = c.in_ok-shown.ensures.application; trace = c.in_ok-shown.ensures.trace; kind = c.in_ok-shown.ensures.kind; line = c.in_ok-shown.ensures.line; lines = c.in_ok-shown.ensures.lines } in
    reported-of c.args.format _ _ _ t shown _ c.put_report.result c.from_ref.ensures.value shows c.put_report.ensures.report
