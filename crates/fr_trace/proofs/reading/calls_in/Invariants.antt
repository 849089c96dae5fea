-- The tokens so far name the calls so far.
use Rattle.std.proofs.Common.{take}
use Rattle.fr_instr.specs.Views.{toks}
use Rattle.fr_trace.specs.Reads.{AreCalls}
use Rattle.fr_trace.proofs.reading.calls_in.Given as goal

abbrev pub invariant-loop-token : goal.invariant-loop-token
invariant-loop-token l = AreCalls (toks (take l.token-index l.tokens)) l.calls.items
