use Rattle.std.proofs.Common.{◌≢◌, ◌<◌, ℕ, IsTrue, IfSome}
use Rattle.fr_program.specs.declared.instr.ObjectCall.{ObjectCall}
use Rattle.fr_rules.specs.Rule.{is_at_end, IsInside}
use Rattle.fr_calls.proofs.state.State.another_inside.Given as goal

-- none of the actors so far is another one inside such a call
abbrev pub invariant-loop-other : goal.invariant-loop-other
invariant-loop-other l =
    (b : ℕ) → b < l.other → b ≢ l.actor.0 → (call : ObjectCall) → IsInside l.app l.self b l.object.0 call → IfSome l.end (λ e. IsTrue (is_at_end e call.act)) → ⊥
