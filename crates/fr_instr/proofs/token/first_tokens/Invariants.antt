use Rattle.std.proofs.Common.{length}
use Rattle.fr_instr.specs.Views.{toks}
use Rattle.fr_instr.proofs.TokenLaws.{SoFar}
use Rattle.fr_instr.proofs.token.first_tokens.Given as goal

abbrev pub invariant-loop-token : goal.invariant-loop-token
invariant-loop-token l = SoFar l.text (toks l.found.items) l.rest

abbrev pub decreases-loop-token : goal.decreases-loop-token
decreases-loop-token l = length l.rest
