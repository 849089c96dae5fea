-- Each actor that is passed has as many sources as lines.
use Rattle.std.proofs.Common.{◌≡◌, map, take, vec_len}
use Rattle.fr_code.proofs.source.sources_of_code.Given as goal

abbrev pub invariant-loop-places : goal.invariant-loop-places
invariant-loop-places l = map vec_len l.sources.items ≡ map vec_len (take l.places-index l.code)
