-- An actor that waits is inside one call alone, and that call decides.
use Rattle.std.proofs.Common.{◌≡◌, None, refl, subst}
use Rattle.fr_rules.specs.State.{Held, content_of, kind_of}
use Rattle.fr_rules.specs.Step.{taken}
use Rattle.fr_waits.proofs.Whom.{waits, stands, named, takes-here, same-mutex}
use Rattle.fr_waits.proofs.waiting.waits_for.Goals as goal

pub returns-in_default-clause-none : goal.returns-in_default-clause-none
returns-in_default-clause-none c =
    λ holder m w.
    c.in_default.not-Some w.call ((c.call_inside.ensures w.call).1 (stands c.args.app.now c.args.state.now c.args.actor.0 holder m w))

pub returns-then-not-takes_without_limit-clause-none : goal.returns-then-not-takes_without_limit-clause-none
returns-then-not-takes_without_limit-clause-none c =
    λ holder m w.
    let takes = takes-here c.args.app.now c.args.state.now c.args.actor.0 c.in-Some.call holder m c.in-Some.ensures w in
    let t = c.takes_without_limit.ensures.1 takes in
    let f = c.if-not-takes_without_limit.true in
    cc

pub holder_before-requires-clause-mutex : goal.holder_before-requires-clause-mutex
holder_before-requires-clause-mutex c =
    named c.args.app.now c.args.state.now c.args.actor.0 c.in-Some.call c.recall_faultless.ensures ((c.in-Some.ensures c.in-Some.call).0 refl)

pub returns-in-Some-holder_before-clause-some : goal.returns-in-Some-holder_before-clause-some
returns-in-Some-holder_before-clause-some c =
    let call = c.in-Some.call in
    let inside = (c.in-Some.ensures call).0 refl in
    let held = c.in-Some-holder_before.ensures.held in
    waits c.args.app.now c.args.state.now c.args.actor.0 call c.in-Some-holder_before.holder.0 held.0 inside (c.takes_without_limit.ensures.0 c.if-not-takes_without_limit.false) held.1 c.in-Some-holder_before.ensures.refused

pub returns-in-None-clause-none : goal.returns-in-None-clause-none
returns-in-None-clause-none c =
    λ holder m w.
    let P = c.args.app.now in
    let S = c.args.state.now in
    let a = c.args.actor.0 in
    let e = same-mutex P S a c.in-Some.call holder m c.in-Some.ensures w in
    c.in-None.ensures.none holder w.count
    (subst (λ o. content_of S o ≡ Held holder w.count) e w.held)
    (subst (λ o. taken (kind_of P o) a (content_of S o) ≡ None) e w.refused)
