use Rattle.std.proofs.Common.{◌≡◌, ◌++◌, map, take}
use Rattle.fr_formats.specs.Sarif.{stop_of, numbered}
use Rattle.fr_formats.proofs.sarif.flow.put_stops.Given as goal

abbrev pub invariant-loop-index : goal.invariant-loop-index
invariant-loop-index l = l.out.tokens ≡ l.fn.out.tokens ++ numbered l.path 1 (map stop_of (take l.index l.stops))
