use Rattle.std.proofs.Common.{◌≡◌, ◌++◌, take}
use Rattle.fr_files.specs.Apart.{AreApart, names, paths}
use Rattle.fr_files.proofs.outputs.check_outputs.Given as goal

-- the inputs and the outputs before are taken, and these are apart
abbrev pub invariant-loop-output : goal.invariant-loop-output
invariant-loop-output l = record {
  taken : names l.taken.items ≡ names l.inputs ++ paths (take l.output-index l.outputs);
  apart : AreApart (names l.inputs) (paths (take l.output-index l.outputs));
}
