use Rattle.std.proofs.Common.{◌≡◌, ◌<◌, ◌≤◌, ℕ}
use Rattle.fr_rules.specs.State.{Done, place_of}
use Rattle.fr_runner.proofs.rest.first_waiting.Given as goal

-- each actor that was passed is done
abbrev pub invariant-loop-actor : goal.invariant-loop-actor
invariant-loop-actor l = (a : ℕ) → l.from ≤ a → a < l.actor → place_of l.machine.state a ≡ Done
