-- Past the spaces so far, the rest of the line decides.
use Rattle.std.proofs.Common.{◌≡◌, drop}
use Rattle.fr_trace.specs.Said.{begins_comment}
use Rattle.fr_trace.proofs.said.begins_comment.Given as goal

abbrev pub invariant-loop-byte : goal.invariant-loop-byte
invariant-loop-byte l = begins_comment l.line ≡ begins_comment (drop l.byte-index l.line)
