-- One line more is answered and printed.
use Rattle.std.proofs.Common.{◌≡◌, ◌≤◌, ◌∙◌, [], ap, arith, map, max, refl, take}
use Rattle.fr_answer.proofs.Terms.{Appends-nil, map-append, take_more, All-nil, is_some, shown, kind_of, what_status, Reads, IsLineAnswer, status-most}
use Rattle.fr_answer.proofs.Listing.{answered-at, printed-line}
use Rattle.fr_answer.proofs.commands.list.print_each.Goals as goal

pub loop-entry-init : goal.loop-entry-init
loop-entry-init g c =
    let list = c.args.list.now in
    (([], refl, All-nil (IsLineAnswer (Reads (g.F.Files.Gives c.args.files.now) g.F.Files.Means) c.args.ways.deadlock list), refl, ([], tt, Appends-nil (g.O.Write.contents c.args.out.now))), omega arith)

pub loop-entry-preserved : goal.loop-entry-preserved
loop-entry-preserved g c =
    let reads = Reads (g.F.Files.Gives c.args.files.now) g.F.Files.Means in
    let list = c.args.list.now in
    let explains = is_some c.args.ways.detail in
    let before = take c.loop-entry.entry-index c.args.entries.now in
    let one = c.in_ok-status.ensures.printed in
    let what = one.0 in
    let more = printed-line reads c.args.ways.deadlock explains list (map shown before) c.loop-entry.greatest _ one.1 _ _ _ c.loop-entry.invariant.0 one.2 one.3 one.4 in
    let on = ap (map shown) (take_more c.args.entries.now c.loop-entry.entry-index _ c.loop-entry-test.true) ∙ map-append shown before _ in
    let next : c.max-greatest.result ≡ max c.loop-entry.greatest (what_status what) = c.max-greatest.ensures ∙ ap (max c.loop-entry.greatest) one.5 in
    let least : what_status what ≤ 3 = status-most (kind_of what) in
    let was : c.loop-entry.greatest ≤ 3 = c.loop-entry.invariant.1 in
    (answered-at reads c.args.ways.deadlock list _ _ _ _ _ on next more, omega (arith, next, least, was))
