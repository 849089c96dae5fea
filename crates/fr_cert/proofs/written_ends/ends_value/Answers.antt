use Rattle.std.proofs.Common.{◌∙◌, All, sym, ap, subst}
use Rattle.fr_cert.proofs.Terms.{EndFits, end_of, end_tree, each_tree}
use Rattle.fr_ends.proofs.TwiceLemmas.{fit_from}
use Rattle.fr_cert.proofs.WrittenLemmas.{tree_more, tree_end, tree_seen}
use Rattle.fr_cert.proofs.written_ends.ends_value.Goals as goal

pub end_value-requires : goal.end_value-requires
end_value-requires c =
    let P = c.args.app.now in
    let es = c.listed-listed.result.now in
    let all = fit_from P es (subst (All (EndFits P)) (sym c.listed-listed.ensures) c.requires) in
    subst (λ e. EndFits P (end_of e)) (sym c.end-item.is) (all c.loop-end.end-index c.end-item.result c.loop-end-test.true)

pub loop-end-preserved : goal.loop-end-preserved
loop-end-preserved c =
    tree_more (λ e. end_tree c.args.app.now (end_of e)) c.listed-listed.result.now c.loop-end.end-index c.end-item.result c.loop-end.list.items c.push.new.self.items c.in_ok-end_value.field-0
    c.loop-end-test.true c.end-item.is c.in_ok-end_value.ensures c.in_ok-push.ensures.items c.loop-end.invariant

pub returns : goal.returns
returns c =
    let P = c.args.app.now in
    let es = c.listed-listed.result.now in
    tree_end (λ e. end_tree P (end_of e)) es c.loop-end.end-index c.loop-end.list.items c.loop-end-test.false c.loop-end.invariant ∙ (tree_seen (end_tree P) end_of es ∙ ap (each_tree (end_tree P)) c.listed-listed.ensures)
