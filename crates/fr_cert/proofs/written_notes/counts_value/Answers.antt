use Rattle.std.proofs.Common.{◌∙◌, ◌<◌, ◌≤◌, length, get_or, map, ap, arith}
use Rattle.fr_cert.proofs.Terms.{get_or_default, map-id, no_members, members_view, object_of, NotHeld, with_count, with_each}
use Rattle.fr_cert.proofs.WrittenLemmas.{each_more, each_end, each_seen}
use Rattle.fr_cert.proofs.written_notes.counts_value.Goals as goal

pub loop-index-preserved : goal.loop-index-preserved
loop-index-preserved c =
    let i = c.loop-index.index in
    let claims = c.args.claims.now in
    let in_cs : i < length claims = c.loop-index-test.true in
    let in_os : i < length c.args.objects.now = omega (arith, in_cs, c.requires) in
    let claim = get_or claims i NotHeld in
    each_more (λ o c. with_count (object_of o) c) c.args.objects.now claims i c.index-objects-index.result claim (members_view c.loop-index.named.entries) (members_view c.add_count.new.named.entries) _
    in_os in_cs c.index-objects-index.is (get_or_default claims i NotHeld claim in_cs) c.in_ok-add_count.ensures c.loop-index.invariant

pub returns : goal.returns
returns c =
    let os = c.args.objects.now in
    let cs = c.args.claims.now in
    let end : length cs ≤ c.loop-index.index = c.loop-index-test.false in
    let past : length os ≤ c.loop-index.index = omega (arith, end, c.requires) in
    each_end _ os cs c.loop-index.index (members_view c.loop-index.named.entries) _ past c.loop-index.invariant
    ∙ (each_seen with_count object_of (λ c. c) os cs no_members ∙ ap (λ ds. with_each with_count (map object_of os) ds no_members) (map-id cs))
