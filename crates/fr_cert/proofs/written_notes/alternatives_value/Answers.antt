use Rattle.fr_cert.proofs.Terms.{alternative_tree}
use Rattle.fr_cert.proofs.WrittenLemmas.{tree_more, tree_end}
use Rattle.fr_cert.proofs.written_notes.alternatives_value.Goals as goal

pub loop-alternative-preserved : goal.loop-alternative-preserved
loop-alternative-preserved c =
    tree_more (alternative_tree c.args.app.now) c.args.alternatives.now c.loop-alternative.alternative-index c.alternative-item.result c.loop-alternative.list.items c.push.new.self.items c.in_ok-alternative_value.field-0
    c.loop-alternative-test.true c.alternative-item.is c.in_ok-alternative_value.ensures c.in_ok-push.ensures.items c.loop-alternative.invariant

pub returns : goal.returns
returns c =
    tree_end (alternative_tree c.args.app.now) c.args.alternatives.now c.loop-alternative.alternative-index c.loop-alternative.list.items c.loop-alternative-test.false c.loop-alternative.invariant
