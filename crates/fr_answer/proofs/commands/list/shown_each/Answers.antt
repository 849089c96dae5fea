-- One line more is answered and shown.
use Rattle.std.proofs.Common.{◌≡◌, ◌≤◌, ◌∙◌, [], ap, arith, map, max, refl, take}
use Rattle.fr_answer.proofs.Terms.{map-append, take_more, All-nil, shown, kind_of, what_status, Reads, IsLineAnswer, status-most}
use Rattle.fr_answer.proofs.Listing.{answered-at, shown-line}
use Rattle.fr_answer.proofs.commands.list.shown_each.Goals as goal

pub loop-listed-init : goal.loop-listed-init
loop-listed-init g c =
    let none = c.new-answers.ensures.items in
    (([], refl, All-nil (IsLineAnswer (Reads (g.F.Files.Gives c.args.files.now) g.F.Files.Means) c.args.ways.deadlock c.args.list.now), refl, rw none tt), omega arith)

pub loop-listed-preserved : goal.loop-listed-preserved
loop-listed-preserved g c =
    let reads = Reads (g.F.Files.Gives c.args.files.now) g.F.Files.Means in
    let list = c.args.list.now in
    let before = take c.loop-listed.listed-index c.args.entries.now in
    let one = c.in_ok-status.ensures in
    let what = one.0 in
    let more = shown-line reads c.args.ways.deadlock list (map shown before) c.loop-listed.greatest _ c.loop-listed.answers.items _ one.2.0 one.2.2 c.loop-listed.invariant.0 one.1 one.2.1 in
    let on = ap (map shown) (take_more c.args.entries.now c.loop-listed.listed-index _ c.loop-listed-test.true) ∙ map-append shown before _ in
    let next : c.max-greatest.result ≡ max c.loop-listed.greatest (what_status what) = c.max-greatest.ensures ∙ ap (max c.loop-listed.greatest) one.3 in
    let least : what_status what ≤ 3 = status-most (kind_of what) in
    let was : c.loop-listed.greatest ≤ 3 = c.loop-listed.invariant.1 in
    (answered-at reads c.args.ways.deadlock list _ _ _ _ _ on next more, omega (arith, next, least, was))
