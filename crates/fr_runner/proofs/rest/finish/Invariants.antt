use Rattle.std.proofs.Common.{◌≡◌}
use Rattle.fr_runner.proofs.rest.finish.Given as goal

-- application and words stay, and so do the polls that the machine began with
abbrev pub invariant-loop-machine : goal.invariant-loop-machine
invariant-loop-machine l =
    (l.machine.approved ≡ l.initial.machine.approved)
    × (l.machine.words ≡ l.initial.machine.words)
    × (l.machine.polls ≡ l.initial.machine.polls)

abbrev pub decreases-loop-machine : goal.decreases-loop-machine
decreases-loop-machine l = l.machine.left
