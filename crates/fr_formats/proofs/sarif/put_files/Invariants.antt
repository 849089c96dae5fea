use Rattle.std.proofs.Common.{◌≡◌, ◌++◌, [], take}
use Rattle.fr_formats.specs.Sarif.{artifacts}
use Rattle.fr_formats.proofs.sarif.put_files.Given as goal

abbrev pub invariant-loop-index : goal.invariant-loop-index
invariant-loop-index l = l.out.tokens ≡ l.initial.out.tokens ++ artifacts [] (take l.index l.answers)
