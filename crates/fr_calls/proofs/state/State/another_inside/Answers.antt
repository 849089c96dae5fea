-- Each actor so far was asked, and whoever is inside a call is one of the application's.
use Rattle.std.proofs.Common.{◌≡◌, ◌≢◌, ◌<◌, ℕ, length, sym, ap, ◌∙◌, IsTrue, IfSome, below_more, arith}
use Rattle.std.proofs.lemmas.Bool.{false≢true}
use Rattle.std.proofs.lemmas.List.{length-map}
use Rattle.fr_program.specs.View.{actor_of}
use Rattle.fr_program.specs.declared.instr.ObjectCall.{ObjectCall}
use Rattle.fr_rules.specs.Rule.{is_at_end, IsInside}
use Rattle.fr_calls.proofs.Breached.{stands-below}
use Rattle.fr_calls.proofs.state.State.another_inside.Goals as goal
use Rattle.fr_calls.proofs.state.State.another_inside.Goals.{else-other-actor-via-then-other-actor+else-is_inside, else-other-actor-via-else-other-actor}

pub loop-other-preserved : goal.loop-other-preserved
loop-other-preserved c =
    let Q : ℕ → Type 0 = λ b. b ≢ c.args.actor.0 → (call : ObjectCall) → IsInside c.args.app.now c.args.self.now b c.args.object.0 call → IfSome c.args.end (λ e. IsTrue (is_at_end e call.act)) → ⊥ in
    below_more Q c.loop-other.other c.loop-other.invariant
    (λ ne call here end. elim c.else-other-actor.branch [
      | else-other-actor-via-then-other-actor+else-is_inside w ↦
          let t = w.is_inside.ensures.1 (call, here, end) in let f = w.if-is_inside.false in cc
      | else-other-actor-via-else-other-actor w ↦ ne w.if-other-actor.false
    ])

pub returns : goal.returns
returns c =
    let P = c.args.app.now in
    let actors = c.actors-other-end.result.now in
    let count : length actors ≡ length P.actors = sym (length-map actors actor_of) ∙ ap length c.actors-other-end.ensures in (
      λ t. absurd (false≢true t),
      λ w.
          let below : w.0 < length P.actors = stands-below P c.args.self.now w.0 c.requires w.3.1 in
          let past = c.loop-other-test.false in
          absurd (c.loop-other.invariant w.0 (omega arith) w.1 w.2 w.3 w.4),
    )
