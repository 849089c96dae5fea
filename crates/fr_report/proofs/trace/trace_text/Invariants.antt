use Rattle.std.proofs.Common.{◌≡◌, take, string_bytes}
use Rattle.fr_report.specs.Trace.{trace_text}
use Rattle.fr_report.proofs.trace.trace_text.Given as goal

-- the lines so far are those of the entries so far
abbrev pub invariant-loop-entry : goal.invariant-loop-entry
invariant-loop-entry l = string_bytes l.text ≡ trace_text l.app (take l.entry-index l.trace.entries.items)
