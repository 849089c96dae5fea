use Rattle.std.proofs.Common.{refl, subst}
use Rattle.std.specs.Prelude.{◌↔◌, IsTrue, Contains}
use Rattle.fr_edge.proofs.Terms.{Alternative, IsLeft, NeverSteps, Keeps}
use Rattle.fr_edge.proofs.Targets.{left-goes}
use Rattle.fr_edge.proofs.steps.goes_well.Goals as goal

pub returns-in-Some : goal.returns-in-Some
returns-in-Some c =
    let same = c.alone-known.ensures in
    let left = subst (λ k. IsLeft c.args.spot.now.app.now k c.args.spot.now.point c.args.way c.in-Some.change) same c.in-Some.ensures.some in
    let kept = subst (λ k. IsTrue c.is_kept.result ↔ ((m : Alternative) × Contains c.args.next.now m × Keeps k c.in-Some.change m)) same c.is_kept.ensures in
    let exactly = left-goes c.args.spot.now.app.now c.args.spot.now.point c.args.alternative.now c.args.way c.in-Some.change c.args.next.now left c.requires.next.1 in
    (λ t. exactly.0 (kept.0 t), λ goes. kept.1 (exactly.1 goes))

pub returns-in-None : goal.returns-in-None
returns-in-None c =
    let never = subst (λ k. NeverSteps c.args.spot.now.app.now k c.args.spot.now.point c.args.way) c.alone-known.ensures c.in-None.ensures.none in
    (λ t can. absurd (never c.args.spot.now.point tt can), λ goes. refl)
