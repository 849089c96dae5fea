use Rattle.std.specs.Prelude.{map}
use Rattle.fr_ends.specs.Fits.{EndsFit}
use Rattle.fr_ends.specs.View.{end_of}
use Rattle.fr_finder.proofs.guards.ends_wanted.Given as goal

abbrev pub invariant-loop-buffer : goal.invariant-loop-buffer
invariant-loop-buffer l = EndsFit l.app (map end_of l.ends.items)
