-- each output so far may be replaced
use Rattle.std.specs.Prelude.{◌≡◌, ◌<◌, ℕ, Some, slice_get}
use Rattle.fr_files.specs.declared.outputs.Output.{Output}
use Rattle.fr_trial.specs.Memory.{IsFree}
use Rattle.fr_trial.proofs.memory.MemoryFilesFiles.check_outputs.Given as goal

abbrev pub invariant-loop-number : goal.invariant-loop-number
invariant-loop-number l = (k : ℕ) (output : Output) → k < l.number → slice_get l.outputs k ≡ Some (Some output) → IsFree l.self output.path.now
