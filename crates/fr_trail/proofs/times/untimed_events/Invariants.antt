use Rattle.std.proofs.Common.{◌≡◌, map, take}
use Rattle.fr_trail.specs.Answered.{untimed}
use Rattle.fr_trail.proofs.times.untimed_events.Given as goal

-- the events so far are those so far, without block times
abbrev pub invariant-loop-event : goal.invariant-loop-event
invariant-loop-event l = l.found.items ≡ map untimed (take l.event-index l.events)
