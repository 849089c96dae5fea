use Rattle.std.specs.Prelude.{◌≡◌, ◌<◌, ◌^◌, sum}
use Rattle.fr_tests.proofs.states.messages_in.Given as goal

-- the total is that of the messages so far
abbrev pub invariant-loop-word : goal.invariant-loop-word
invariant-loop-word l = (l.total ≡ sum l.messages.lengths.items) × (l.total < 2 ^ 33)
