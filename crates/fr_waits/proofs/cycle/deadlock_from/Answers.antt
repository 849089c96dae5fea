-- Where an actor comes back, the trail from there is a cycle. One that doesn't wait is in no cycle, so the first actor
-- isn't in one either.
use Rattle.std.proofs.Common.{◌≡◌, ◌≢◌, ◌<◌, ◌-◌, ◌++◌, List, length, get_or, drop, take, arith, sym, ap, ◌∙◌, subst, nat_lt}
use Rattle.std.specs.Prelude.{All}
use Rattle.std.specs.List.{IsFirstBest}
use Rattle.fr_waits.specs.declared.wait.Wait.{Wait}
use Rattle.fr_waits.specs.Waits.{LeadsTo, IsCycle, BeginsAtLeast, HasEachOnce}
use Rattle.fr_waits.proofs.Cycles.{waits-in-cycle}
use Rattle.fr_waits.proofs.Trail.{IsTrail, few, longer, comes-back, leads-to}
use Rattle.fr_waits.proofs.Turned.{begins-there, once-there, rest-of}
use Rattle.fr_waits.proofs.cycle.deadlock_from.Goals as goal

pub returns-in-Some-clause-cycle : goal.returns-in-Some-clause-cycle
returns-in-Some-clause-cycle c =
    let P = c.args.app.now in
    let S = c.args.state.now in
    let trail : List Wait = c.walk.trail.items in
    let start = c.in-Some.start in
    let k = c.place_of_least.result in
    let there = c.in-Some.ensures.some in
    let same = c.deref.ensures.value in
    let within : start < length trail = subst (λ (l : List Wait). start < length l) same there.0 in
    let back : (d : Wait) → (get_or trail start d).actor.0 ≡ c.walk.current.0 = λ d. subst (λ (l : List Wait). (get_or l start d).actor.0 ≡ c.walk.current.0) same (there.1 d) in
    let cycle = comes-back P S c.args.actor.0 c.walk.current.0 start k trail c.walk.invariant within back in
    let slice = rest-of c.deref-in-Some.result.now trail start c.deref-in-Some.ensures.value in
    subst (λ (l : List Wait). IsCycle P S l) (sym (c.in_ok-begun_at.ensures ∙ ap (λ (l : List Wait). drop k l ++ take k l) slice)) cycle

pub returns-in-Some-clause-reached : goal.returns-in-Some-clause-reached
returns-in-Some-clause-reached c =
    let P = c.args.app.now in
    let S = c.args.state.now in
    let trail : List Wait = c.walk.trail.items in
    let start = c.in-Some.start in
    let k = c.place_of_least.result in
    let within : start < length trail = subst (λ (l : List Wait). start < length l) c.deref.ensures.value c.in-Some.ensures.some.0 in
    let slice = rest-of c.deref-in-Some.result.now trail start c.deref-in-Some.ensures.value in
    subst (λ (l : List Wait). LeadsTo P S c.args.actor.0 l) (sym (c.in_ok-begun_at.ensures ∙ ap (λ (l : List Wait). drop k l ++ take k l) slice))
    (leads-to P S c.args.actor.0 c.walk.current.0 start k trail c.walk.invariant within)

pub returns-in-Some-clause-least : goal.returns-in-Some-clause-least
returns-in-Some-clause-least c =
    let now : List Wait = c.deref-in-Some.result.now in
    let cycle : List Wait = take (length now - c.in-Some.start) (drop c.in-Some.start now) in
    let best : IsFirstBest (λ v w. nat_lt v.actor.0 w.actor.0) cycle (length cycle) c.place_of_least.result = c.place_of_least.ensures in
    subst (λ (l : List Wait). BeginsAtLeast l) (sym c.in_ok-begun_at.ensures) (begins-there c.place_of_least.result cycle best)

pub returns-in-Some-clause-once : goal.returns-in-Some-clause-once
returns-in-Some-clause-once c =
    let start = c.in-Some.start in
    let k = c.place_of_least.result in
    let slice = rest-of c.deref-in-Some.result.now c.walk.trail.items start c.deref-in-Some.ensures.value in
    let within : k < length (drop start c.walk.trail.items) = omega (arith, c.place_of_least.ensures.0, ap (λ (l : List Wait). length l) slice) in
    subst (λ (l : List Wait). HasEachOnce l) (sym (c.in_ok-begun_at.ensures ∙ ap (λ (l : List Wait). drop k l ++ take k l) slice))
    (once-there start k c.walk.trail.items c.walk.invariant.once within)

pub returns-in_default-waits_for-clause-none : goal.returns-in_default-waits_for-clause-none
returns-in_default-waits_for-clause-none c =
    λ h.
    let w = waits-in-cycle c.args.app.now c.args.state.now c.walk.current.0 (c.walk.invariant.in_cycle h) in
    c.in_default-waits_for.ensures.none w.0 w.1 w.2

pub walk-preserved : goal.walk-preserved
walk-preserved c =
    let P = c.args.app.now in
    let S = c.args.state.now in
    let h = c.in-Some-waits_for.awaited.holder.0 in
    let w : Wait = record { actor = c.walk.current; mutex = c.in-Some-waits_for.awaited.mutex } in
    let fresh : All (λ v. v.actor.0 ≢ c.walk.current.0) c.walk.trail.items = subst (λ (l : List Wait). All (λ v. v.actor.0 ≢ c.walk.current.0) l) c.deref.ensures.value c.in_default.ensures.none in
    let more = longer P S c.args.actor.0 h c.walk.trail.items w c.walk.invariant fresh c.in-Some-waits_for.ensures.some c.in-Some-waits_for.ensures.holder in
    subst (λ (l : List Wait). IsTrail P S c.args.actor.0 l h) (sym c.in_ok-push.ensures.items) more

pub unreachable-requires : goal.unreachable-requires
unreachable-requires c =
    let n = length c.args.app.now.actors in
    let short = few n c.walk.trail.items c.walk.invariant.once c.walk.invariant.below in
    omega (arith, c.walk.trail.ok)
