-- The lines so far are read, and no more are ignored than there are.
use Rattle.std.proofs.Common.{length}
use Rattle.std.specs.Str.Lines.{lines}
use Rattle.fr_trace.specs.Views.{so_far}
use Rattle.fr_trace.proofs.Lines.{IsKept}
use Rattle.fr_trace.proofs.reading.read_lines.Given as goal

abbrev pub invariant-loop-index : goal.invariant-loop-index
invariant-loop-index l = IsKept l.names l.from_anywhere (lines l.text) (length l.yielded) (so_far l.progress)
