use Rattle.std.proofs.Common.{◌≡◌, ◌++◌, take, flat_map, string_bytes}
use Rattle.fr_report.specs.Waits.{next_text}
use Rattle.fr_report.proofs.waits.put_others.Given as goal

abbrev pub invariant-loop-wait : goal.invariant-loop-wait
invariant-loop-wait l = string_bytes l.text ≡ string_bytes l.fn.text ++ flat_map (next_text l.app) (take l.wait-index l.waits)
