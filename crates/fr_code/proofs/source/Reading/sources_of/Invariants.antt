-- As many sources are found as lines are passed.
use Rattle.std.proofs.Common.{◌≡◌, vec_len}
use Rattle.fr_code.proofs.source.Reading.sources_of.Given as goal

abbrev pub invariant-loop-place : goal.invariant-loop-place
invariant-loop-place l = vec_len l.sources ≡ l.place-index
