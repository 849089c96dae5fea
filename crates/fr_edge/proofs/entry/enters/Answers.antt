use Rattle.std.proofs.Common.{sym, subst}
use Rattle.fr_edge.proofs.Terms.{start, Holds}
use Rattle.fr_edge.proofs.entry.enters.Goals as goal

pub returns-in-Before : goal.returns-in-Before
returns-in-Before c =
    let h = c.some_holds_at_start.ensures c.args.spot.now.point.actor.0 in (
      λ t pc side. subst (λ note. Holds note c.args.spot.now.point.actor.0 (start c.args.spot.now.app.now)) c.args.spot.now.has_note (h.0 t),
      λ entry.
          h.1 (subst (λ note. Holds note c.args.spot.now.point.actor.0 (start c.args.spot.now.app.now)) (sym c.args.spot.now.has_note) (entry c.if-spot-ne0.false c.in-Before.is)),
    )
