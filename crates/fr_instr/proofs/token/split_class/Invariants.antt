use Rattle.std.proofs.Common.{◌≤◌, ◌-◌, length}
use Rattle.fr_instr.specs.Views.{is_of}
use Rattle.fr_instr.proofs.RunLemmas.{Passed}
use Rattle.fr_instr.proofs.token.split_class.Given as goal

abbrev pub invariant-loop-n : goal.invariant-loop-n
invariant-loop-n l = Passed (is_of l.class) l.text l.n × (l.n ≤ length l.text)

abbrev pub decreases-loop-n : goal.decreases-loop-n
decreases-loop-n l = length l.text - l.n
