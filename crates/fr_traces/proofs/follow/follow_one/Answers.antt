-- The one trace is answered and printed.
use Rattle.std.proofs.Common.{[], ◌∷◌, false, option_map, string_bytes, subst}
use Rattle.fr_traces.proofs.Terms.{lines_text, TraceAnswer, Reads, AreTracesPrinted, TraceAnswerAt, answered_at}
use Rattle.fr_traces.proofs.Following.{one-alone}
use Rattle.fr_traces.proofs.follow.follow_one.Goals as goal

pub returns-clause-answered : goal.returns-clause-answered
returns-clause-answered g c =
    let reads = Reads (g.F.Files.Gives c.args.files.now) g.F.Files.Means in
    let answer = c.in_ok-answer.answer in
    let t : TraceAnswerAt = record { path = c.args.path.now; kind = answer.kind; line = string_bytes answer.line; more = lines_text answer.why.items; run = option_map string_bytes answer.run } in
    let Printed : TraceAnswer → Type 0 = λ a. AreTracesPrinted c.args.asked.now.format c.args.asked.now.app.now false (g.O.Write.contents c.args.out.now) (g.O.Write.contents c.print_one.new.out) (answered_at c.args.path.now a ∷ []) in
    let printed = subst Printed c.get.ensures c.in_ok-print_one.ensures.printed in
    one-alone reads c.args.asked.now c.args.app.now t (AreTracesPrinted c.args.asked.now.format c.args.asked.now.app.now false _ _) c.in_ok-answer.ensures.by printed
