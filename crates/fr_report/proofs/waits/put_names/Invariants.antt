use Rattle.std.proofs.Common.{◌≡◌, ◌++◌, take, flat_map, string_bytes}
use Rattle.fr_report.specs.Waits.{name_after}
use Rattle.fr_report.proofs.waits.put_names.Given as goal

abbrev pub invariant-loop-mutex : goal.invariant-loop-mutex
invariant-loop-mutex l = string_bytes l.text ≡ string_bytes l.fn.text ++ flat_map (name_after l.between l.app) (take l.mutex-index l.mutexes)
