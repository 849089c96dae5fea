use Rattle.std.proofs.Common.{◌<◌, ℕ}
use Rattle.fr_rules.specs.Rule.{Breach}
use Rattle.fr_calls.proofs.state.State.first_to_breach.Given as goal

-- none of the actors so far breaches the rule
abbrev pub invariant-loop-actor : goal.invariant-loop-actor
invariant-loop-actor l = (b : ℕ) → b < l.actor → Breach l.app l.self l.rule b → ⊥
