use Rattle.std.proofs.Common.{◌∙◌, ◌<◌, ◌≤◌, length, arith}
use Rattle.fr_cert.proofs.Terms.{no_members, members_view, variable_of, ends_of, with_named}
use Rattle.fr_cert.proofs.WrittenLemmas.{each_more, each_end, each_seen}
use Rattle.fr_cert.proofs.written_notes.ranges_value.Goals as goal

pub loop-index-preserved : goal.loop-index-preserved
loop-index-preserved c =
    let i = c.loop-index.index in
    let in_rs : i < length c.args.ranges.now = c.loop-index-test.true in
    let in_vs : i < length c.args.variables.now = omega (arith, in_rs, c.requires.same) in
    each_more (λ v r. with_named (variable_of v) (ends_of r)) c.args.variables.now c.args.ranges.now i c.index-variables-index.result c.index-ranges-index.result (members_view c.loop-index.named.entries) (members_view c.add_range.new.named.entries) _
    in_vs in_rs c.index-variables-index.is c.index-ranges-index.is c.in_ok-add_range.ensures c.loop-index.invariant

pub returns : goal.returns
returns c =
    let vs = c.args.variables.now in
    let rs = c.args.ranges.now in
    let end : length rs ≤ c.loop-index.index = c.loop-index-test.false in
    let past : length vs ≤ c.loop-index.index = omega (arith, end, c.requires.same) in
    each_end _ vs rs c.loop-index.index (members_view c.loop-index.named.entries) _ past c.loop-index.invariant ∙ each_seen with_named variable_of ends_of vs rs no_members
