-- Each actor was asked, and whoever breaches a rule is one of the application's.
use Rattle.std.proofs.Common.{◌≡◌, ◌<◌, length, sym, ap, ◌∙◌, arith, below_more}
use Rattle.std.proofs.lemmas.List.{length-map}
use Rattle.fr_program.specs.View.{actor_of}
use Rattle.fr_rules.specs.Rule.{Breach}
use Rattle.fr_calls.proofs.Breached.{stands-below}
use Rattle.fr_calls.proofs.state.State.first_to_breach.Goals as goal

pub breaches-requires-clause-actor : goal.breaches-requires-clause-actor
breaches-requires-clause-actor c =
    let actors = c.actors-actor-end.result.now in
    let count : length actors ≡ length c.args.app.now.actors = sym (length-map actors actor_of) ∙ ap length c.actors-actor-end.ensures in
    let before = c.loop-actor-test.true in
    omega arith

pub returns-then-breaches-clause-some : goal.returns-then-breaches-clause-some
returns-then-breaches-clause-some c = (c.breaches.ensures.0 c.if-breaches.true, c.loop-actor.invariant)

pub returns-then-breaches-clause-actor : goal.returns-then-breaches-clause-actor
returns-then-breaches-clause-actor c =
    let actors = c.actors-actor-end.result.now in
    let count : length actors ≡ length c.args.app.now.actors = sym (length-map actors actor_of) ∙ ap length c.actors-actor-end.ensures in
    let before = c.loop-actor-test.true in
    omega arith

pub loop-actor-preserved : goal.loop-actor-preserved
loop-actor-preserved c =
    below_more (λ b. Breach c.args.app.now c.args.self.now c.args.rule b → ⊥) c.loop-actor.actor c.loop-actor.invariant
    (λ h. let t = c.breaches.ensures.1 h in let f = c.if-breaches.false in cc)

pub returns-clause-none : goal.returns-clause-none
returns-clause-none c =
    let P = c.args.app.now in
    let actors = c.actors-actor-end.result.now in
    let count : length actors ≡ length P.actors = sym (length-map actors actor_of) ∙ ap length c.actors-actor-end.ensures in
    let past = c.loop-actor-test.false in
    λ b h.
    let below : b < length P.actors = stands-below P c.args.self.now b c.requires h.stands in
    c.loop-actor.invariant b (omega arith) h
