-- Of the tokens so far none is the name of an object.
use Rattle.std.proofs.Common.{◌≡◌, drop}
use Rattle.std.specs.List.{list_any}
use Rattle.fr_instr.specs.Views.{toks}
use Rattle.fr_trace.specs.Reads.{is_object_name}
use Rattle.fr_trace.proofs.effect.object_among.Given as goal

abbrev pub invariant-loop-token : goal.invariant-loop-token
invariant-loop-token l = list_any (is_object_name l.names) (toks l.tokens) ≡ list_any (is_object_name l.names) (toks (drop l.token-index l.tokens))
