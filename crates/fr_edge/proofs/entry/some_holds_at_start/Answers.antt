use Rattle.std.proofs.Common.{sym, subst, refl}
use Rattle.fr_edge.proofs.Terms.{start, Holds}
use Rattle.fr_edge.proofs.entry.some_holds_at_start.Goals as goal

pub returns-then-holds_at_start : goal.returns-then-holds_at_start
returns-then-holds_at_start c = λ a.
    let found : Holds c.alternatives-alternative-items.result.now a (start c.args.app.now) =
    (c.alternative-item.result, (c.loop-alternative.alternative-index, c.loop-alternative-test.true, sym c.alternative-item.is), (c.holds_at_start.ensures a).0 c.if-holds_at_start.true) in
    (λ h. subst (λ note. Holds note a (start c.args.app.now)) c.alternatives-alternative-items.ensures found, λ h. refl)
