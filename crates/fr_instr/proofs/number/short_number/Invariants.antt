use Rattle.std.proofs.Common.{◌-◌, length}
use Rattle.fr_instr.proofs.NumberLaws.{Counted}
use Rattle.fr_instr.proofs.number.short_number.Given as goal

abbrev pub invariant-loop-digit : goal.invariant-loop-digit
invariant-loop-digit l = Counted l.text l.i l.n

abbrev pub decreases-loop-digit : goal.decreases-loop-digit
decreases-loop-digit l = length l.text - l.i
