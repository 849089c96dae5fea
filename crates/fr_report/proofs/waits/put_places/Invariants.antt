use Rattle.std.proofs.Common.{◌≡◌, ◌++◌, take, flat_map, string_bytes}
use Rattle.fr_report.specs.Waits.{edge_after}
use Rattle.fr_report.proofs.waits.put_places.Given as goal

abbrev pub invariant-loop-edge : goal.invariant-loop-edge
invariant-loop-edge l = string_bytes l.text ≡ string_bytes l.fn.text ++ flat_map (edge_after l.app) (take l.edge-index l.edges)
