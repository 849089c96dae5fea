use Rattle.std.proofs.Common.{◌≡◌, ◌≤◌, ◌-◌, ◌++◌, length, drop, option_map}
use Rattle.fr_instr.specs.Views.{toks, words}
use Rattle.fr_instr.specs.ShapeReading.{some_args}
use Rattle.fr_instr.proofs.shape.args_before_last.Given as goal

abbrev pub invariant-loop-value : goal.invariant-loop-value
invariant-loop-value l =
    (l.i ≤ length l.tokens) × (some_args (toks l.tokens) ≡ option_map (λ q. (words l.args.items ++ q.0, q.1)) (some_args (toks (drop l.i l.tokens))))

abbrev pub decreases-loop-value : goal.decreases-loop-value
decreases-loop-value l = length l.tokens - l.i
