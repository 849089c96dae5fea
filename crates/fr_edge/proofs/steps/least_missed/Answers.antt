use Rattle.std.proofs.Common.{Some, sym, subst}
use Rattle.fr_edge.proofs.Terms.{Then, Else, WayOutcome, GoesOutcome}
use Rattle.fr_edge.proofs.Targets.{both-miss, then-misses, else-outcome}
use Rattle.fr_edge.proofs.steps.least_missed.Goals as goal

pub returns-in-Some-Some : goal.returns-in-Some-Some
returns-in-Some-Some c =
    let P = c.args.spot.now.app.now in
    let ns = c.args.spot.now.notes.now in
    let p = c.args.spot.now.point in
    let w = subst (λ o. WayOutcome P ns p Then o) c.in-Some-Some.is-0 c.missed-one.ensures in
    let f = subst (λ o. WayOutcome P ns p Else o) c.in-Some-Some.is-1 c.missed_else-other.ensures in
    subst (λ k. GoesOutcome P ns p (Some k)) (sym c.min.ensures) (both-miss P ns p _ _ w f)

pub returns-in-Some-None : goal.returns-in-Some-None
returns-in-Some-None c =
    let P = c.args.spot.now.app.now in
    let ns = c.args.spot.now.notes.now in
    let p = c.args.spot.now.point in
    let w = subst (λ o. WayOutcome P ns p Then o) c.in-Some-None.is-0 c.missed-one.ensures in
    let f = subst (λ o. WayOutcome P ns p Else o) c.in-Some-None.is-1 c.missed_else-other.ensures in
    then-misses P ns p _ w f

pub returns-in-None-default : goal.returns-in-None-default
returns-in-None-default c =
    let P = c.args.spot.now.app.now in
    let ns = c.args.spot.now.notes.now in
    let p = c.args.spot.now.point in
    let w = subst (λ o. WayOutcome P ns p Then o) c.in-None-default.is-0 c.missed-one.ensures in
    else-outcome P ns p _ w c.missed_else-other.ensures
