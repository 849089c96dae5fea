use Rattle.fr_effects.proofs.IndexLaws.{leave-told}
use Rattle.fr_effects.proofs.index.can_leave.Goals as goal

pub returns : goal.returns
returns c =
    let s = c.in-Sets in
    leave-told c.args.app.now c.args.anywhere.now c.requires.declared c.alone.result c.alone.ensures s.left s.operator s.right c.result-span.result c.result-span.ensures
    s.target c.range.result c.range.ensures.lo c.range.ensures.hi c.within.result c.within.ensures c.args.effect s.is
