use Rattle.std.proofs.Common.{Some, ap, ◌∙◌, arith}
use Rattle.fr_cert.proofs.Terms.{view, get_item_within, get_item_past}
use Rattle.fr_cert.proofs.ranges.item_at.Goals as goal

pub returns-then-index-len : goal.returns-then-index-len
returns-then-index-len c = ap (λ v. Some (view v)) c.index.ensures ∙ get_item_within c.args.list.now.items c.args.index c.index.result.now (omega arith)

pub returns-else-index-len : goal.returns-else-index-len
returns-else-index-len c = get_item_past c.args.list.now.items c.args.index (omega arith)
