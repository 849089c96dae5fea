-- The first actor of a deadlock would be one from whom one comes to a cycle.
use Rattle.std.proofs.Common.{ℕ, arith, below_more, subst}
use Rattle.std.specs.Prelude.{IfNone}
use Rattle.fr_waits.specs.Waits.{IsInCycle}
use Rattle.fr_waits.proofs.Cycles.{first-in-cycle}
use Rattle.fr_waits.proofs.Whom.{actor-there}
use Rattle.fr_waits.proofs.cycle.deadlock_in.Goals as goal

pub loop-actor-preserved : goal.loop-actor-preserved
loop-actor-preserved c =
    let Q : ℕ → Type 0 = λ a. IsInCycle c.args.app.now c.args.state.now a → ⊥ in
    let here : Q c.loop-actor.actor = subst (λ o. IfNone o (Q c.loop-actor.actor)) c.in_default.is c.in_ok-cycle.ensures.none in
    below_more Q c.loop-actor.actor c.loop-actor.invariant here

pub returns-clause-none : goal.returns-clause-none
returns-clause-none c =
    λ d.
    let a = first-in-cycle c.args.app.now c.args.state.now d in
    let l = actor-there c.args.app.now c.args.state.now c.requires.formed a.0 a.1 in
    let over = c.loop-actor-test.false in
    let n = c.count_actors-actor-end.ensures in
    c.loop-actor.invariant a.0 (omega arith) a.1
