-- One trace more is answered and shown.
use Rattle.std.proofs.Common.{◌≡◌, ◌≤◌, ◌∙◌, ap, arith, map, max, option_map, string_bytes, take}
use Rattle.fr_traces.proofs.Terms.{map-append, take_more, kind_status, lines_text, Each, Reads, ShowsTrace, TraceAnswerAt, status-most}
use Rattle.fr_traces.proofs.Following.{answers-at, none-yet, of-same, shown-trace}
use Rattle.fr_traces.proofs.printed.shown_each.Goals as goal

pub loop-path-init : goal.loop-path-init
loop-path-init g c =
    let none = c.new-answers.ensures.items in
    (none-yet (Reads (g.F.Files.Gives c.args.files.now) g.F.Files.Means) c.args.asked.now c.args.app.now (λ answers. Each (ShowsTrace c.args.asked.now.app.now) answers c.new-answers.result.items) (rw none tt), omega arith)

pub loop-path-preserved : goal.loop-path-preserved
loop-path-preserved g c =
    let reads = Reads (g.F.Files.Gives c.args.files.now) g.F.Files.Means in
    let before = take c.loop-path.path-index c.args.paths.now in
    let answer = c.get.result.now in
    let by = of-same reads c.args.asked.now c.args.app.now _ _ answer c.get.ensures c.in_ok-answer.ensures.by in
    let t : TraceAnswerAt = record { path = _; kind = answer.kind; line = string_bytes answer.line; more = lines_text answer.why.items; run = option_map string_bytes answer.run } in
    let s = c.in_ok-status.ensures.added in
    let more = shown-trace reads c.args.asked.now c.args.app.now (map (λ s. s.now) before) c.loop-path.greatest t c.loop-path.answers.items _ s.0 s.2 c.loop-path.invariant.0 by s.1 in
    let on = ap (map (λ s. s.now)) (take_more c.args.paths.now c.loop-path.path-index _ c.loop-path-test.true) ∙ map-append (λ s. s.now) before _ in
    let next : c.max-greatest.result ≡ max c.loop-path.greatest (kind_status answer.kind) = c.max-greatest.ensures ∙ ap (max c.loop-path.greatest) c.in_ok-status.ensures.status in
    let least : kind_status answer.kind ≤ 3 = status-most answer.kind in
    let was : c.loop-path.greatest ≤ 3 = c.loop-path.invariant.1 in
    (answers-at reads c.args.asked.now c.args.app.now _ _ _ _ _ on next more, omega (arith, next, least, was))
