-- What is added shows the answer.
use Rattle.std.proofs.Common.{◌≡◌, ◌++◌, [], ◌∷◌, option_map, rules, string_bytes}
use Rattle.fr_traces.proofs.Terms.{lines_text, ShowsTrace, TraceAnswerAt}
use Rattle.fr_traces.proofs.printed.add_trace.Goals as goal

pub returns-clause-added : goal.returns-clause-added
returns-clause-added c =
    let answer = c.args.answer.now in
    let t : TraceAnswerAt = record { path = c.args.path.now; kind = answer.kind; line = string_bytes answer.line; more = lines_text answer.why.items; run = option_map string_bytes answer.run } in
    let s = c.in_ok-trace_shown.field-0 in
    let shows : ShowsTrace c.args.asked.now.app.now t s = record { application = c.in_ok-trace_shown.ensures.application; trace = c.in_ok-trace_shown.ensures.trace; kind = c.in_ok-trace_shown.ensures.kind; line = c.in_ok-trace_shown.ensures.line; lines = c.in_ok-trace_shown.ensures.lines } in
    let pushed : c.push.new.self.items ≡ c.args.answers.now.items ++ s ∷ [] = search rules in
    (s, shows, pushed)
