use Rattle.std.proofs.Common.{take, string_bytes}
use Rattle.fr_trail.specs.Runs.{IsRunText}
use Rattle.fr_trail.proofs.run_text.run_text.Given as goal

-- the lines so far are those of the items so far
abbrev pub invariant-loop-item : goal.invariant-loop-item
invariant-loop-item l = IsRunText l.app (take l.item-index l.run) (string_bytes l.text)
