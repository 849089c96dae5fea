use Rattle.std.proofs.Common.{◌≡◌, map, take, flat_map}
use Rattle.fr_formats.specs.Sarif.{stop_of, step_stops}
use Rattle.fr_formats.proofs.sarif.flow.stops_of_run.Given as goal

abbrev pub invariant-loop-step : goal.invariant-loop-step
invariant-loop-step l = map stop_of l.stops.items ≡ flat_map step_stops (take l.step-index l.steps)
