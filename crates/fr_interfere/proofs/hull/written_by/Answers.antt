use Rattle.std.proofs.Common.{Some, sym, subst}
use Rattle.fr_interfere.proofs.Terms.{joint_range, IsSpanIn, GivesIn}
use Rattle.fr_interfere.proofs.hull.written_by.Goals as goal

pub returns-in-Sets : goal.returns-in-Sets
returns-in-Sets c =
    let s = c.in-Sets in
    let m = c.args.alternative.now in
    let span = subst (λ k. IsSpanIn (joint_range k) s.operator s.left s.right c.result.result) c.alone.ensures c.result.ensures in
    subst (λ e. GivesIn e m (Some c.result.result)) (sym s.is) (λ u v one other. span.inside u v one other)
